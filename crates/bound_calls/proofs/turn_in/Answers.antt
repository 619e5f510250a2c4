use Rattle.bound_calls.proofs.Telling.{turn-none, turn-some}
use Rattle.run.proofs.Turning.{turn_below, turning}
use Rattle.bound_calls.proofs.turn_in.Goals as goal

pub whose-t-requires : goal.whose-t-requires
whose-t-requires c = turning _ _ _ _ _ c.requires

pub returns-in_default : goal.returns-in_default
returns-in_default c = turn-none _ _ _ _ _ _ c.whose-t.ensures.who c.in_default.is c.refusal.ensures

pub step_in-requires : goal.step_in-requires
step_in-requires c = (c.requires, turn_below _ c.whose-t.ensures.who c.in-Some.is, (λ w. c.whose-t.ensures.told _ c.in-Some.is))

pub returns : goal.returns
returns c = turn-some _ _ _ _ _ _ c.whose-t.ensures.who c.in-Some.is c.step_in.ensures
