use borrow.Author.Tests.{eq-eqb, ne_eqb}
use Rattle.parlog.specs.Unify.{meet}
use Rattle.unify.proofs.meet.Goals as goal

pub returns-then-a-b : goal.returns-then-a-b
unfolding meet
returns-then-a-b c = rw (c.in-Const-y.is, c.in-Const.is, eq-eqb _ _ c.if-a-b.true)

pub returns-else-a-b : goal.returns-else-a-b
unfolding meet
returns-else-a-b c = rw (c.in-Const-y.is, c.in-Const.is, ne_eqb _ _ c.if-a-b.false)

pub returns-in-Var-y : goal.returns-in-Var-y
unfolding meet
returns-in-Var-y c = rw (c.in-Var-y.is, c.in-Const.is)

pub returns-in-Const-y-2 : goal.returns-in-Const-y-2
unfolding meet
returns-in-Const-y-2 c = rw (c.in-Const-y-2.is, c.in-Var.is)

pub returns-in-Var-y-2 : goal.returns-in-Var-y-2
unfolding meet
returns-in-Var-y-2 c = rw (c.in-Var-y-2.is, c.in-Var.is) c.meet_vars.ensures
