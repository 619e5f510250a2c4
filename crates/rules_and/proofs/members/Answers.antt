use mathlib.Core.Path.{refl}
use native.Mathlib.Omega.{arith}
use Rattle.rules_and.proofs.Children.{fill-next, fill_start}
use Rattle.rules_and.proofs.members.Goals as goal

pub loop-j-init : goal.loop-j-init
loop-j-init c = (refl, fill_start _ _)

pub loop-j-preserved : goal.loop-j-preserved
loop-j-preserved c = (omega arith, fill-next _ _ _ _ c.loop-j.invariant.1 c.member-y.ensures c.append.ensures)
