use Rattle.capi.proofs.Laws.{replay-tells}
use Rattle.capi.proofs.rissobarm_replay.Goals as goal

pub returns : goal.returns
returns c = replay-tells _ _ _ _ c.replay-a.ensures c.replay_word.ensures
