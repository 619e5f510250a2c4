use Rattle.unify.proofs.Laws.{bound-past, bound-sort}
use Rattle.unify.proofs.is_bound.Goals as goal

pub returns-then-v-vars : goal.returns-then-v-vars
returns-then-v-vars c = bound-sort _ _ _ c.if-v-vars.true

pub returns : goal.returns
returns c = bound-past _ _ _ c.if-v-vars.false
