use Rattle.capi.proofs.Laws.{save-fit, save-tells}
use Rattle.capi.proofs.rissobarm_save.Goals as goal

pub save_word-requires : goal.save_word-requires
save_word-requires c = save-fit _ _ _ _ c.save-a.ensures

pub returns : goal.returns
returns c = save-tells _ _ _ _ c.save-a.ensures c.save_word.ensures
