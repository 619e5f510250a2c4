use Rattle.turn_search.proofs.Laws.{tells_is}
use Rattle.turn_search.proofs.tells.Goals as goal

pub returns : goal.returns
returns c = tells_is _ _ c.requires c.asks-k.ensures
