use borrow.Author.Tests.{eq-eqb, ne_eqb}
use Rattle.parlog.specs.Tree.{is_child}
use Rattle.children.proofs.is_child.Goals as goal

pub returns-then-i-eq0 : goal.returns-then-i-eq0
unfolding is_child
returns-then-i-eq0 c = rw (eq-eqb _ _ c.if-i-eq0.true)

pub returns : goal.returns
unfolding is_child
returns c = rw (ne_eqb _ _ c.if-i-eq0.false, c.from.ensures, c.parent_at.ensures)
