use mathlib.Core.Path.{refl}
use native.Mathlib.Omega.{arith}
use Rattle.runner.proofs.Telling.{lines_fit, never-unrun, told-run}
use Rattle.runner.proofs.Playing.{plays}
use Rattle.parlog.proofs.Limits.{small-usable}
use Rattle.parlog.specs.Limits.{small}
use Rattle.runner.proofs.play.Goals as goal

pub returns-in_default : goal.returns-in_default
unfolding small
returns-in_default c = absurd (never-unrun (plays _ small-usable _ _ _ _ _ c.requires.0 c.goal_vars-goal.ensures.0 c.goal_vars-goal.ensures.1 refl refl refl c.start-begun.ensures c.run-ran.ensures) c.in_default.is)

pub lines-requires : goal.lines-requires
unfolding small
lines-requires c = let k = lines_fit (plays _ small-usable _ _ _ _ _ c.requires.0 c.goal_vars-goal.ensures.0 c.goal_vars-goal.ensures.1 refl refl refl c.start-begun.ensures c.run-ran.ensures) c.goal_vars-goal.ensures.0 c.var_count.ensures.0 in (k.1, c.goal_vars-goal.ensures.1, omega (arith, c.requires.4))

pub ran-requires : goal.ran-requires
unfolding small
ran-requires c = omega (arith, c.lines.ensures.fronted.near, c.requires.4)

pub returns : goal.returns
unfolding small
returns c = told-run _ _ c.requires.0 (plays _ small-usable _ _ _ _ _ c.requires.0 c.goal_vars-goal.ensures.0 c.goal_vars-goal.ensures.1 refl refl refl c.start-begun.ensures c.run-ran.ensures) c.in-Ok.is c.goal_vars-goal.ensures.0 c.var_count.ensures.0 c.requires.3 c.lines.ensures c.ran.ensures

pub invariant_of-cells : goal.invariant_of-cells
unfolding small
invariant_of-cells c = let k = lines_fit (plays _ small-usable _ _ _ _ _ c.requires.0 c.goal_vars-goal.ensures.0 c.goal_vars-goal.ensures.1 refl refl refl c.start-begun.ensures c.run-ran.ensures) c.goal_vars-goal.ensures.0 c.var_count.ensures.0 in record { whole = k.0 }
