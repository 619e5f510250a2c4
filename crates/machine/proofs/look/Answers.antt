use Rattle.machine.proofs.Looking.{look_none, look-some}
use Rattle.unify.proofs.Bounds.{var-top}
use native.Mathlib.Omega.{arith}
use Rattle.machine.proofs.look.Goals as goal

pub returns-then-goal-variable : goal.returns-then-goal-variable
returns-then-goal-variable c = look_none _ _ _ c.goal_vars-goal.ensures.0 c.if-goal-variable.true c.refusal-unseen.ensures

pub value_of-seen-requires : goal.value_of-seen-requires
value_of-seen-requires c = var-top _ _ _ c.if-goal-variable.false (omega (arith, c.goal_vars-goal.ensures.0, c.var_count.ensures.0, c.requires.2))

pub returns : goal.returns
returns c = look-some _ _ _ c.goal_vars-goal.ensures.0 c.if-goal-variable.false (rw c.var_count.ensures.0 at c.value_of-seen.ensures)
