use mathlib.Core.Path.{◌≡◌}
use mathlib.Core.Bool.{Bool, cond, false, true}
use Prim.Native.Nat.{◌+◌, ◌≤◌, ℕ}
use native.Mathlib.Omega.{arith}
use mir.Val.{bool_byte}
use Rattle.program_clause.proofs.more.Goals as goal

one-more : (t : Bool) (n v : ℕ) → v ≡ bool_byte t → (n + v ≡ cond t (n + 1) n) × (n + v ≤ n + 1)
one-more true n v e = let u : v ≡ 1 = e in (omega arith, omega arith)
one-more false n v e = let u : v ≡ 0 = e in (omega arith, omega arith)

pub returns : goal.returns
returns c = one-more _ _ _ c.from.ensures
