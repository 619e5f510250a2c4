use Rattle.capi.proofs.Laws.{turn-fit, turn-tells}
use Rattle.parlog.proofs.Limits.{small-usable}
use Rattle.capi.proofs.rissobarm_turn.Goals as goal

pub step_word-requires : goal.step_word-requires
step_word-requires c = turn-fit _ _ _ c.turn-a.ensures small-usable

pub returns : goal.returns
returns c = turn-tells _ _ _ c.turn-a.ensures c.step_word.ensures
