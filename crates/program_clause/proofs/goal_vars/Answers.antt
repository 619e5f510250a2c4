use native.Mathlib.Omega.{arith}
use Rattle.program_clause.proofs.Fields.{goal-vars}
use Rattle.program_clause.proofs.goal_vars.Goals as goal

pub returns : goal.returns
returns c = (goal-vars c.args.image.now.bytes.now _ _ c.record_at-at.ensures.0 c.byte_at.ensures.0, omega arith)
