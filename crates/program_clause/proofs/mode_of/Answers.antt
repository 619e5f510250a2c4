use native.Mathlib.Omega.{arith}
use Rattle.program_clause.proofs.Modes.{mode-none, mode-some}
use Rattle.program_clause.proofs.mode_of.Goals as goal

pub returns-then-n-i : goal.returns-then-n-i
returns-then-n-i c = (mode-none c.args.image.now.bytes.now _ _ _ _ _ c.modes_of-ms.ensures.0 c.if-n-i.true, omega arith)

pub returns : goal.returns
returns c = (mode-some c.args.image.now.bytes.now _ _ _ _ _ c.modes_of-ms.ensures.0 c.if-n-i.false c.byte_at.ensures.0, omega arith)
