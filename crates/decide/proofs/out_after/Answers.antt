use mathlib.Core.Path.{◌≡◌}
use mathlib.Core.Bool.{Bool, cond, false, not, true}
use Prim.Native.Nat.{◌+◌, ◌≤◌, ℕ}
use lib.Dec.{eqb}
use native.Mathlib.Omega.{arith}
use mir.Val.{bool_byte}
use Rattle.parlog.specs.Unify.{out_after}
use Rattle.decide.proofs.out_after.Goals as goal

after : (b : Bool) (out v : ℕ) → v ≡ bool_byte (not b) → (out + v ≡ cond b out (out + 1)) × (out + v ≤ out + 1)
after true out v e = let u : v ≡ 0 = e in (omega arith, omega arith)
after false out v e = let u : v ≡ 1 = e in (omega arith, omega arith)

pub returns : goal.returns
unfolding out_after
returns c = after (eqb c.args.m 0) _ _ c.from.ensures
