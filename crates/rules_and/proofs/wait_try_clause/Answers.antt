use Rattle.rules_and.proofs.Ways.{try-waits}
use Rattle.rules_and.proofs.wait_try_clause.Goals as goal

pub returns : goal.returns
returns c = (λ ps t. try-waits ps _ _ t.failed t.succeeded c.wait_all.ensures.0, c.wait_all.ensures.1, c.wait_all.ensures.2)
