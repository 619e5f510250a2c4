use Rattle.rules_and.specs.Says.{wait_all}
use Rattle.rules_and.proofs.wait_all.Goals as goal

pub returns-then-told : goal.returns-then-told
unfolding wait_all
returns-then-told c = (rw c.if-told.true c.report.ensures.0, c.report.ensures.1, c.report.ensures.2)

pub returns-then-told-2 : goal.returns-then-told-2
unfolding wait_all
returns-then-told-2 c = (rw (c.if-told.false, c.if-told-2.true) c.report-then-told-2.ensures.0, c.report-then-told-2.ensures.1, c.report-then-told-2.ensures.2)

pub returns : goal.returns
unfolding wait_all
returns c = (rw (c.if-told.false, c.if-told-2.false) c.none.ensures.0, c.none.ensures.1, c.none.ensures.2)
