use Rattle.rules_and.proofs.Ways.{guard-fails, guard-succeeds, guard-waits}
use Rattle.rules_and.proofs.wait_guard_eval.Goals as goal

pub returns-in-Silent : goal.returns-in-Silent
returns-in-Silent c = (λ ps t. guard-waits ps _ _ t.latest c.in-Silent.is c.none.ensures.0, c.none.ensures.1, c.none.ensures.2)

pub returns-in-Good : goal.returns-in-Good
returns-in-Good c = (λ ps t. guard-succeeds ps _ _ t.latest c.in-Good.is c.report.ensures.0, c.report.ensures.1, c.report.ensures.2)

pub returns-in-Bad : goal.returns-in-Bad
returns-in-Bad c = (λ ps t. guard-fails ps _ _ t.latest c.in-Bad.is c.report-in-Bad.ensures.0, c.report-in-Bad.ensures.1, c.report-in-Bad.ensures.2)
