use Rattle.capi.proofs.Laws.{value-fit, value_tells}
use Rattle.capi.proofs.rissobarm_value.Goals as goal

pub value_word-requires : goal.value_word-requires
value_word-requires c = value-fit _ _ _ _ c.value-a.ensures

pub returns : goal.returns
returns c = value_tells _ _ _ _ c.value-a.ensures c.value_word.ensures
