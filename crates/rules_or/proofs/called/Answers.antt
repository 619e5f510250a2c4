use native.Mathlib.Omega.{arith}
use Rattle.rules_or.proofs.Ways.{called_is}
use Rattle.rules_or.proofs.called.Goals as goal

pub returns : goal.returns
returns c = (called_is _ _ c.literal.ensures.0, omega arith)
