use native.Mathlib.Omega.{arith}
use Rattle.tree.proofs.Passing.{pass-end, pass-start}
use mathlib.Core.Path.{refl}
use Rattle.tree.proofs.sleep_below.Goals as goal

pub sleep_from-requires : goal.sleep_from-requires
sleep_from-requires c =
    let f = rw c.in-Some.is at c.first_child.ensures in
    (c.requires.0, c.requires.3, f.0, omega (arith, f.1), c.requires.2, f.2)

pub returns-in_default : goal.returns-in_default
returns-in_default c = pass-end _ _ _ _ _ (pass-start _ _ _ _ c.requires.2 (rw c.in_default.is at c.first_child.ensures)) refl
