use mathlib.Core.Path.{sym, ◌∙◌}
use native.Mathlib.Omega.{arith}
use Rattle.unify.proofs.Laws.{under_at, value-const, value_on, value-stop, value-unbound}
use Rattle.unify.proofs.value_of_var.Goals as goal

pub returns-in_default : goal.returns-in_default
returns-in_default c = sym (c.loop-t.invariant.1 ∙ value-unbound _ _ (under_at _ _ _ _ c.loop-t.invariant.0 c.get-row.ensures c.found_in-b.ensures) c.in_default.is)

pub returns-in_default-t : goal.returns-in_default-t
returns-in_default-t c = sym (c.loop-t.invariant.1 ∙ value-const _ _ (under_at _ _ _ _ c.loop-t.invariant.0 c.get-row.ensures c.found_in-b.ensures) c.in-Some.is c.in_default-t.is)

pub returns-then-a-w : goal.returns-then-a-w
returns-then-a-w c = sym (c.loop-t.invariant.1 ∙ value-stop _ _ (under_at _ _ _ _ c.loop-t.invariant.0 c.get-row.ensures c.found_in-b.ensures) c.in-Some.is c.in-Var.is c.if-a-w.true)

pub loop-t-preserved : goal.loop-t-preserved
loop-t-preserved c = (omega arith, c.loop-t.invariant.1 ∙ value_on _ _ (under_at _ _ _ _ c.loop-t.invariant.0 c.get-row.ensures c.found_in-b.ensures) c.in-Some.is c.in-Var.is c.if-a-w.false)
