use mathlib.Core.Path.{◌∙◌}
use native.Mathlib.Omega.{arith}
use Rattle.unify.proofs.Laws.{top-var, value-known, value-var}
use Rattle.unify.proofs.value_under.Goals as goal

pub returns-in_default : goal.returns-in_default
returns-in_default c = value-known _ c.in_default.is

pub value_of_var-requires : goal.value_of_var-requires
value_of_var-requires c = omega (arith, top-var c.in-Var.is)

pub returns : goal.returns
returns c = c.value_of_var.ensures ∙ value-var _ c.in-Var.is
