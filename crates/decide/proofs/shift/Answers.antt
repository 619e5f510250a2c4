use native.Mathlib.Omega.{arith}
use Rattle.parlog.specs.Unify.{shift}
use Rattle.unify.proofs.Laws.{top-var}
use Rattle.decide.proofs.shift.Goals as goal

pub returns-in_default : goal.returns-in_default
unfolding shift
returns-in_default c = rw c.in_default.is

pub overflow_add-result : goal.overflow_add-result
overflow_add-result c = omega (arith, top-var c.in-Var.is)

pub returns : goal.returns
unfolding shift
returns c = rw c.in-Var.is
