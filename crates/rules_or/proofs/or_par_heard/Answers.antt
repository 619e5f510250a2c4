use Rattle.rules_or.proofs.Ways.{body-done, clause-found}
use Rattle.rules_or.proofs.or_par_heard.Goals as goal

pub returns-then-y-ne-SEQ_SEARCH : goal.returns-then-y-ne-SEQ_SEARCH
returns-then-y-ne-SEQ_SEARCH c = (λ vs. body-done _ _ _ vs _ _ _ c.get-y.ensures c.if-y-ne-SEQ_SEARCH.true c.report.ensures.0, c.report.ensures.1, c.report.ensures.2)

pub returns : goal.returns
returns c = (λ vs. clause-found _ _ _ vs _ _ _ c.get-y.ensures c.if-y-ne-SEQ_SEARCH.false c.body_child-child.ensures c.make_one.ensures.0, c.make_one.ensures.1, c.make_one.ensures.2)
