use native.Mathlib.Omega.{arith}
use Rattle.std.proofs.Common.{rules}
use Rattle.print.proofs.Called.{lacks-room, prints, tells}
use Rattle.print.proofs.accepted.Goals as goal

pub returns-then-text-at : goal.returns-then-text-at
returns-then-text-at c = rw (c.unwritten-then-text-at.ensures, ← c.new.ensures) (tells (lacks-room c.args.text.now _ _ c.new-measured.ensures.start c.lines.ensures c.if-not-named.false c.if-text-at.true))

pub returns : goal.returns
returns c = rw (← c.new.ensures) (tells (prints c.args.text.now _ _ c.new-measured.ensures.start c.lines.ensures c.if-not-named.false c.if-text-at.false (omega arith) c.new-writer.ensures.start c.new-writer.ensures.row.1 c.lines-2.ensures (search rules)))
