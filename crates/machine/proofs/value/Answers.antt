use Rattle.machine.proofs.Looking.{value-looked, value-refused}
use Rattle.machine.proofs.value.Goals as goal

pub returns-in_default : goal.returns-in_default
returns-in_default c = value-refused _ _ _ _ c.enter-e.ensures.enter_says c.in_default.is c.refusal-r.ensures

pub returns : goal.returns
returns c = value-looked _ _ _ _ c.enter-e.ensures.enter_says c.in-Ok.is c.look.ensures
