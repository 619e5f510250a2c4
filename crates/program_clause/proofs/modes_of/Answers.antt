use native.Mathlib.Omega.{arith}
use Rattle.program_clause.proofs.Modes.{modes-none, modes-some}
use Rattle.program_clause.proofs.modes_of.Goals as goal

pub returns-then-image-q : goal.returns-then-image-q
returns-then-image-q c = (modes-none c.args.image.now.bytes.now _ _ c.if-image-q.true, omega arith, omega arith)

pub returns : goal.returns
returns c = (modes-some c.args.image.now.bytes.now _ _ c.if-image-q.false c.record_at-rec.ensures.0 c.byte_at-n.ensures.0, omega arith, omega arith)
