use Rattle.load_body.proofs.Goals.{stages-many, stages-more, stages-none, stages-stop}
use Rattle.place.proofs.Rows.{row-fault, row-right}
use native.Mathlib.Omega.{arith}
use Rattle.load_body.proofs.stages_range.Goals as goal

pub returns-then-sum-gt-MOST_LITERALS : goal.returns-then-sum-gt-MOST_LITERALS
returns-then-sum-gt-MOST_LITERALS c = let p = c.loop in
    (rw (stages-many c.args.s.now c.args.n p.counter p.at p.sum c.loop-test.true (omega arith)) at p.invariant.0, tt)

pub returns-in_err-at : goal.returns-in_err-at
returns-in_err-at c = let p = c.loop in
    let f = row-fault _ _ c.in_err-at.ensures.0 in
    rw c.from_residual.ensures (rw (stages-stop c.args.s.now c.args.n p.counter p.at p.sum c.loop-test.true f) at p.invariant.0, tt)

pub loop-preserved : goal.loop-preserved
loop-preserved c = let p = c.loop in
    let f = row-right _ _ _ c.in_ok-at.ensures.0 in
    (rw (f.1, c.byte_at-sum.ensures.0) (rw (stages-more c.args.s.now c.args.n p.counter p.at p.sum c.loop-test.true f.0) at p.invariant.0), omega (arith, c.in_ok-at.ensures.1), omega arith)

pub returns : goal.returns
returns c = let p = c.loop in
    (rw (stages-none c.args.s.now c.args.n p.counter p.at p.sum (omega arith) p.invariant.2) at p.invariant.0, omega arith)
