use Rattle.parlog.specs.Unify.{is_var}
use Rattle.decide.proofs.is_var.Goals as goal

pub returns-in_default : goal.returns-in_default
unfolding is_var
returns-in_default c = rw c.in_default.is

pub returns : goal.returns
unfolding is_var
returns c = rw c.in-Var.is
