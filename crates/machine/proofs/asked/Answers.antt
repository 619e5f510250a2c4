use Rattle.unify.proofs.Bounds.{var-top}
use Rattle.machine.proofs.Giving.{asked-none, asked-some}
use native.Mathlib.Omega.{arith}
use Rattle.machine.proofs.asked.Goals as goal

pub returns-then-goal-variable : goal.returns-then-goal-variable
returns-then-goal-variable c = asked-none _ _ _ _ c.goal_vars-goal.ensures.0 c.if-goal-variable.true c.refusal.ensures

pub value_of-t-requires : goal.value_of-t-requires
value_of-t-requires c = var-top _ _ _ c.if-goal-variable.false (omega (arith, c.goal_vars-goal.ensures.0, c.var_count.ensures.0, c.requires.2))

pub returns : goal.returns
returns c = asked-some _ _ _ _ c.goal_vars-goal.ensures.0 c.if-goal-variable.false (rw c.var_count.ensures.0 at c.value_of-t.ensures) c.given.ensures
