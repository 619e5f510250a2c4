use Rattle.unify.proofs.Laws.{unify-step}
use Rattle.unify.proofs.unify_one.Goals as goal

pub returns : goal.returns
returns c = (unify-step _ _ _ _ c.value_under-x.ensures c.value_under-y.ensures c.meet.ensures c.join.ensures.0, c.join.ensures.1, c.join.ensures.2)
