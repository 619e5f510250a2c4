use Rattle.lay.proofs.Laws.{lays-then}
use Rattle.lay.proofs.put4.Goals as goal

pub returns : goal.returns
returns c =
    lays-then c.put2-next.ensures c.put2.ensures
