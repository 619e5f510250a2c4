use native.Mathlib.Omega.{arith}
use Rattle.program_clause.proofs.Modes.{mode-count}
use Rattle.program_clause.proofs.mode_count.Goals as goal

pub returns : goal.returns
returns c = (mode-count c.args.image.now.bytes.now _ _ _ _ _ c.modes_of-ms.ensures.0, omega arith)
