use Rattle.bound_calls.proofs.Telling.{turn_away, turn-done}
use Rattle.bound_calls.proofs.turn_bound.Goals as goal

pub returns-in_default : goal.returns-in_default
returns-in_default c = turn_away _ _ _ _ c.enter-e.ensures.enter_says c.in_default.is c.refusal-r.ensures

pub returns : goal.returns
returns c = turn-done _ _ _ _ c.enter-e.ensures.enter_says c.in-Ok.is c.turn_in.ensures
