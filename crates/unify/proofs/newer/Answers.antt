use borrow.Author.Tests.{eq-eqb, ne_eqb}
use Rattle.unify.specs.Pending.{newer_of}
use Rattle.unify.proofs.newer.Goals as goal

pub returns-then-c-v : goal.returns-then-c-v
unfolding newer_of
returns-then-c-v c = simp (eq-eqb _ _ c.if-c-v.true)

pub returns-else-c-v : goal.returns-else-c-v
unfolding newer_of
returns-else-c-v c = simp (ne_eqb _ _ c.if-c-v.false)
