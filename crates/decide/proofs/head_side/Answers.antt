use mathlib.Core.Path.{◌∙◌}
use borrow.Author.Tests.{eq-eqb, ne_eqb}
use Rattle.parlog.specs.Unify.{head_side}
use Rattle.decide.proofs.head_side.Goals as goal

pub returns-then-m-eq0 : goal.returns-then-m-eq0
unfolding head_side
returns-then-m-eq0 c = c.shift.ensures ∙ simp (eq-eqb _ _ c.if-m-eq0.true)

pub returns : goal.returns
unfolding head_side
returns c = simp (ne_eqb _ _ c.if-m-eq0.false)
