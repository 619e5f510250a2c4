use Rattle.place.proofs.Rows.{row_more, row-none, row-stop}
use Rattle.parlog.specs.Body.{literal_range}
use Rattle.parlog.specs.Image.{byte_at, literal_end}
use borrow.Author.Tests.{le-leb, lt-leb}
use Prim.Native.Nat.{◌+◌}
use native.Mathlib.Omega.{arith}
use Rattle.load_body.proofs.literals_range.Goals as goal

pub returns-then-a-gt-MOST_ARITY : goal.returns-then-a-gt-MOST_ARITY
returns-then-a-gt-MOST_ARITY c = let p = c.loop in
    let s = c.args.s.now in
    (rw (row-stop (literal_range s) (literal_end s) c.args.n p.counter p.at c.loop-test.true (lt-leb (byte_at s (p.at + 1)) 4 (omega arith))) at p.invariant.0, tt)

pub loop-preserved : goal.loop-preserved
loop-preserved c = let p = c.loop in
    let s = c.args.s.now in
    (rw c.byte_at-a.ensures.0 (rw (row_more (literal_range s) (literal_end s) c.args.n p.counter p.at c.loop-test.true (le-leb (byte_at s (p.at + 1)) 4 (omega arith))) at p.invariant.0), omega arith)

pub returns : goal.returns
returns c = let s = c.args.s.now in
    (rw (row-none (literal_range s) (literal_end s) c.args.n c.loop.counter c.loop.at (omega arith)) at c.loop.invariant.0, omega arith)
