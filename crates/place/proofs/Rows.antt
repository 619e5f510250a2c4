-- One turn of a row that is read to its end, and what the end says of the tests.
use Rattle.std.specs.Prelude.{Some, None}
use Rattle.std.specs.Bool.{then_some}
use Rattle.std.specs.Option.{is_some}
use Rattle.std.proofs.lemmas.Option.{none-some}
use mathlib.Core.Path.{◌≡◌, refl, sym}
use mathlib.Core.Bool.{Bool, false, true}
use Prim.Native.Nat.{◌+◌, ◌-◌, ◌<◌, ◌≤◌, suc, ℕ}
use native.Mathlib.Omega.{arith}
use Rattle.parlog.specs.Scan.{along, each}
use Rattle.place.specs.Reading.{row}

-- of n items the first k are behind
module _ (ok : ℕ → Bool) (next : ℕ → ℕ) (n k at : ℕ) where
  pub row-none : n ≤ k → row ok next (n - k) at ≡ Some at
  unfolding each along
  row-none h = let e : n - k ≡ 0 = omega arith in rw e

  pub row_more : k < n → ok at ≡ true → row ok next (n - k) at ≡ row ok next (n - (k + 1)) (next at)
  unfolding each along
  row_more h t = let e : n - k ≡ suc (n - (k + 1)) = omega arith in rw (e, t)

  pub row-stop : k < n → ok at ≡ false → row ok next (n - k) at ≡ None
  unfolding each along
  row-stop h t = let e : n - k ≡ suc (n - (k + 1)) = omega arith in rw (e, t)

  pub each_none : n ≤ k → each ok next (n - k) at ≡ true
  unfolding each
  each_none h = let e : n - k ≡ 0 = omega arith in rw e

  pub each_more : k < n → ok at ≡ true → each ok next (n - k) at ≡ each ok next (n - (k + 1)) (next at)
  unfolding each
  each_more h t = let e : n - k ≡ suc (n - (k + 1)) = omega arith in rw (e, t)

  pub each-stop : k < n → ok at ≡ false → each ok next (n - k) at ≡ false
  unfolding each
  each-stop h t = let e : n - k ≡ suc (n - (k + 1)) = omega arith in rw (e, t)

-- a row that has an end passes its tests, and one that has none doesn't
pub row-right : (b : Bool) (e r : ℕ) → Some r ≡ then_some b e → (b ≡ true) × (r ≡ e)
row-right true e r q = (refl, cc)
row-right false e r q = absurd (none-some r (sym q))

pub row-fault : (b : Bool) (e : ℕ) → None ≡ then_some b e → b ≡ false
row-fault true e q = absurd (none-some e q)
row-fault false e q = refl

pub row-some : (b : Bool) (e : ℕ) → is_some (then_some b e) ≡ b
row-some true e = refl
row-some false e = refl
