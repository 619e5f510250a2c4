use Rattle.rules_and.proofs.Ways.{par-waits}
use Rattle.rules_and.proofs.wait_and_par.Goals as goal

pub returns : goal.returns
returns c = (λ ps t. par-waits ps _ _ t.failed t.succeeded c.wait_all.ensures.0, c.wait_all.ensures.1, c.wait_all.ensures.2)
