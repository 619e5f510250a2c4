use native.Mathlib.Omega.{arith}
use Rattle.turn_forms.proofs.Core.{joined}
use Rattle.turn_forms.proofs.join_head.Goals as goal

pub returns : goal.returns
returns c = joined c.args.counts.now c.args.last c.args.steps c.requires (omega arith) (omega arith) c.to_le_bytes-last.ensures c.to_le_bytes-steps.ensures
