use Rattle.std.proofs.Common.{◌∙◌, arith, refl, sym}
use Rattle.saved.specs.Reading.{known, read_saved}
use Rattle.saved.proofs.Following.{before-none, before-some}
use Rattle.saved.proofs.Passing.{end_none, end_whole, loop-step, stops}
use Rattle.saved.proofs.read.Goals as goal

pub loop-at-init : goal.loop-at-init
unfolding read_saved
loop-at-init c = (refl, omega arith, omega arith, omega arith)

pub returns-in-Err : goal.returns-in-Err
returns-in-Err c = let l = c.loop-at in
    let f = c.in-Err.ensures in
    sym (stops c.args.s.now l.at (known l.g) c.loop-at-test.true f.0 f.1) ∙ l.invariant.0

pub loop-at-preserved : goal.loop-at-preserved
loop-at-preserved c = let l = c.loop-at in
    let i = l.invariant in
    let f = c.in-Ok.ensures in
    loop-step c.args.s.now l.at (known l.g) c.loop-at-test.true (sym f.0) (sym f.1) c.seen_with-g.ensures c.length-at.ensures.0 i.0 i.1 i.2

pub returns-then-is_none : goal.returns-then-is_none
returns-then-is_none c = let l = c.loop-at in
    end_none c.args.s.now l.at (known l.g) c.loop-at-test.false l.invariant.0 (before-none l.g.kind c.is_none.ensures c.if-is_none.true) refl

pub returns : goal.returns
returns c = let l = c.loop-at in
    end_whole c.args.s.now l.at (known l.g) c.loop-at-test.false l.invariant.0 (before-some l.g.kind c.is_none.ensures c.if-is_none.false)
