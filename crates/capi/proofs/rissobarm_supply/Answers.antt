use Rattle.capi.proofs.Laws.{supply-fit, supply-tells}
use Rattle.capi.proofs.rissobarm_supply.Goals as goal

pub supply_word-requires : goal.supply_word-requires
supply_word-requires c = supply-fit _ _ _ _ _ c.supply-a.ensures

pub returns : goal.returns
returns c = supply-tells _ _ _ _ _ c.supply-a.ensures c.supply_word.ensures
