use Rattle.machine.proofs.Giving.{decided-asked, decided-refused}
use Rattle.machine.proofs.decided.Goals as goal

pub returns-in_default : goal.returns-in_default
returns-in_default c = decided-refused _ _ _ _ _ c.enter-e.ensures.enter_says c.in_default.is c.refusal-r.ensures

pub returns : goal.returns
returns c = decided-asked _ _ _ _ _ c.enter-e.ensures.enter_says c.in-Ok.is c.asked.ensures
