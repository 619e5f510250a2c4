use Rattle.capi.proofs.Laws.{start-fit, start-tells}
use Rattle.capi.proofs.rissobarm_start.Goals as goal

pub start_word-requires : goal.start_word-requires
start_word-requires c = start-fit _ _ _ c.start-a.ensures

pub returns : goal.returns
returns c = start-tells _ _ _ c.start-a.ensures c.start_word.ensures
