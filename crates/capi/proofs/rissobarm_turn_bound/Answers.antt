use Rattle.capi.proofs.Laws.{row-tells, turn-bound-fit}
use Rattle.parlog.proofs.Limits.{small-usable}
use Rattle.parlog.specs.Numbers.{step_numbers}
use Rattle.capi.proofs.rissobarm_turn_bound.Goals as goal

pub step_word-requires : goal.step_word-requires
step_word-requires c = turn-bound-fit _ _ _ _ c.turn_bound-a.ensures small-usable

pub returns : goal.returns
returns c = row-tells c.turn_bound-a.ensures step_numbers c.step_word.ensures
