use Rattle.replay.proofs.Laws.{word-played, word-refused}
use Rattle.replay.proofs.replay_word.Goals as goal

pub returns-in-Ok : goal.returns-in-Ok
returns-in-Ok c = word-played c.in-Ok.is c.told_number.ensures.0 c.word.ensures

pub returns-in-Err : goal.returns-in-Err
returns-in-Err c = word-refused c.in-Err.is c.told_refusal.ensures.0 c.refused.ensures
