use Rattle.unify.proofs.Laws.{value-nothing}
use Rattle.unify.proofs.value_of.Goals as goal

pub returns : goal.returns
returns c = value-nothing _ _ _ c.none-u.ensures.0 c.value_under.ensures
