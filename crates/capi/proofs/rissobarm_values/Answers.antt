use Rattle.capi.proofs.Laws.{values-fit, values-tells}
use Rattle.parlog.proofs.Limits.{small-usable}
use Rattle.capi.proofs.rissobarm_values.Goals as goal

pub values_word-requires : goal.values_word-requires
values_word-requires c = values-fit _ _ _ _ c.values-a.ensures small-usable

pub returns : goal.returns
returns c = values-tells _ _ _ _ c.values-a.ensures c.values_word.ensures
