use Rattle.capi.proofs.Laws.{row-tells}
use Rattle.capi.proofs.Traces.{supply-traced-fit}
use Rattle.parlog.specs.Numbers.{supply_numbers}
use Rattle.capi.proofs.rissobarm_supply_traced.Goals as goal

pub supply_word-requires : goal.supply_word-requires
supply_word-requires c = supply-traced-fit _ _ _ _ _ _ _ c.supply_traced-a.ensures

pub returns : goal.returns
returns c = row-tells c.supply_traced-a.ensures supply_numbers c.supply_word.ensures
