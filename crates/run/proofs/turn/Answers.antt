use Rattle.run.proofs.Turning.{turn-refused, turn-turned}
use Rattle.run.proofs.turn.Goals as goal

pub returns-in_default : goal.returns-in_default
returns-in_default c = turn-refused _ _ _ c.enter-e.ensures.enter_says c.in_default.is c.refusal-away.ensures

pub returns : goal.returns
returns c = turn-turned _ _ _ c.enter-e.ensures.enter_says c.in-Ok.is c.turn_in.ensures
