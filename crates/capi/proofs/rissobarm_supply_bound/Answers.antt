use Rattle.capi.proofs.Laws.{row-tells, supply-bound-fit}
use Rattle.parlog.specs.Numbers.{supply_numbers}
use Rattle.capi.proofs.rissobarm_supply_bound.Goals as goal

pub supply_word-requires : goal.supply_word-requires
supply_word-requires c = supply-bound-fit _ _ _ _ _ _ c.supply_bound-a.ensures

pub returns : goal.returns
returns c = row-tells c.supply_bound-a.ensures supply_numbers c.supply_word.ensures
