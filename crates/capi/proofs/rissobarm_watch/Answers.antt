use Rattle.capi.proofs.Laws.{watch-tells}
use Rattle.capi.proofs.rissobarm_watch.Goals as goal

pub returns : goal.returns
returns c = watch-tells _ c.watch_rows-a.ensures c.watch_word.ensures
