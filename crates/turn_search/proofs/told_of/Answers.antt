use Rattle.turn_search.proofs.Passing.{asks-told}
use Rattle.turn_search.proofs.told_of.Goals as goal

pub returns : goal.returns
returns g c = asks-told _ _ _ c.requires.1 c.requires.2 c.in-Some.is c.note_of.ensures c.told_by.ensures
