use Rattle.lay.proofs.Laws.{lays-then}
use Rattle.lay.proofs.put2.Goals as goal

pub returns : goal.returns
returns c = lays-then c.put-next.ensures c.put.ensures
