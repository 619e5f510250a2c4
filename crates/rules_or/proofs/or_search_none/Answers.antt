use Rattle.rules_or.proofs.Ways.{all-fail, some-try}
use Rattle.rules_or.proofs.or_search_none.Goals as goal

pub returns-then-hopeless : goal.returns-then-hopeless
returns-then-hopeless c = (λ s. all-fail _ _ s c.if-hopeless.true c.report.ensures.0, c.report.ensures.1, c.report.ensures.2)

pub returns : goal.returns
returns c = (λ s. some-try _ _ s c.if-hopeless.false c.none.ensures.0, c.none.ensures.1, c.none.ensures.2)
