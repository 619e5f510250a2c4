use native.Mathlib.Omega.{arith}
use Rattle.unify.proofs.Bounds.{var-top}
use Rattle.runner.proofs.Telling.{list_done, list_on, list-start}
use Rattle.runner.proofs.lines.Goals as goal

pub loop-v-init : goal.loop-v-init
loop-v-init c = list-start _ _ _

pub value_of-t-requires : goal.value_of-t-requires
value_of-t-requires c = var-top _ c.args.goal _ (omega (arith, c.loop-v.invariant.some)) c.requires.0

pub line-requires : goal.line-requires
line-requires c = omega (arith, c.loop-v.invariant.near, c.loop-v.invariant.some, c.requires.1, c.requires.2)

pub loop-v-preserved : goal.loop-v-preserved
loop-v-preserved c = list_on _ _ _ _ _ c.loop-v.invariant _ (omega arith) c.value_of-t.ensures c.line.ensures

pub returns : goal.returns
returns c = list_done _ _ _ _ _ c.loop-v.invariant (omega arith) c.requires.1
