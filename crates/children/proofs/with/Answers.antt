use borrow.Author.Tests.{eq-eqb, ne_eqb}
use Rattle.children.specs.Notes.{hear}
use Rattle.children.proofs.with.Goals as goal

pub returns-then-s-eq0 : goal.returns-then-s-eq0
unfolding hear
returns-then-s-eq0 c = rw (eq-eqb _ _ c.if-s-eq0.true)

pub returns : goal.returns
unfolding hear
returns c = rw (ne_eqb _ _ c.if-s-eq0.false)
