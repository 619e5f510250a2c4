use Rattle.replay.proofs.Laws.{replay-refused}
use Rattle.replay.proofs.replay.Goals as goal

pub returns-in_default : goal.returns-in_default
returns-in_default c = replay-refused _ _ _ _ c.enter-e.ensures.enter_says c.in_default.is c.refusal-r.ensures

pub returns : goal.returns
returns c = c.replay_in.ensures
