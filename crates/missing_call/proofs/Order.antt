-- The order of names: no name is before itself, and of two different ones one is before the other.
use mathlib.Core.Path.{◌≡◌, refl, sym}
use mathlib.Core.Bool.{◌&&◌, false, true}
use mathlib.Core.List.{[], ◌∷◌}
use mathlib.Core.Logic.{◌⊎◌, inl, inr}
use Prim.Native.Nat.{◌<◌, ◌≤◌, ℕ}
use lib.Dec.{eqb, ltb}
use borrow.Author.Tests.{eq-eqb, eqb-true, le-ltb, lt-ltb, ltb-false, ltb-true}
use native.Mathlib.Omega.{arith}
use Rattle.missing_call.specs.Least.{before}
use Rattle.parlog.proofs.Bools.{and-true, never, or-false, or_right, or-true, split}
use Rattle.text_names.specs.Names.{Name}

pub before_self : (x : Name) → before x x ≡ false
unfolding before
before_self [] = refl
before_self (a ∷ x) = rw (le-ltb a a (omega arith), eq-eqb a a refl) (before_self x)

-- ---- two names by their first bytes

module _ (a b : ℕ) (x y : Name) where
  first-less : a < b → before (a ∷ x) (b ∷ y) ≡ true
  unfolding before
  first-less h = rw (lt-ltb a b h) refl

  first-same : a ≡ b → before x y ≡ true → before (a ∷ x) (b ∷ y) ≡ true
  unfolding before
  first-same e h = rw (eq-eqb a b e) (or_right (ltb a b) (before x y) h)

  firsts : before (a ∷ x) (b ∷ y) ≡ true → (a < b) ⊎ ((a ≡ b) × (before x y ≡ true))
  unfolding before
  firsts e = go (or-true (ltb a b) (eqb a b && before x y) e)
    where
      go : (ltb a b ≡ true) ⊎ ((eqb a b && before x y) ≡ true) → (a < b) ⊎ ((a ≡ b) × (before x y ≡ true))
      go (inl h) = inl (ltb-true a b h)
      go (inr h) = let w = and-true (eqb a b) (before x y) h in inr (eqb-true a b w.0, w.1)

  firsts-not : before (a ∷ x) (b ∷ y) ≡ false → (b ≤ a) × (a ≡ b → before x y ≡ false)
  unfolding before
  firsts-not e =
      let w = or-false (ltb a b) (eqb a b && before x y) e in
      (ltb-false a b w.0, λ h. (rw (eq-eqb a b h) at w.1))

-- ---- three names

pub before-then : (x y z : Name) → before x y ≡ true → before y z ≡ true → before x z ≡ true
unfolding before
before-then x y [] e f = never f
before-then x [] (c ∷ z) e f = never e
before-then [] (b ∷ y) (c ∷ z) e f = refl
before-then (a ∷ x) (b ∷ y) (c ∷ z) e f = go (firsts a b x y e) (firsts b c y z f) (λ d g. before-then x y z d g)
  where
    go : (a < b) ⊎ ((a ≡ b) × (before x y ≡ true)) → (b < c) ⊎ ((b ≡ c) × (before y z ≡ true)) → (before x y ≡ true → before y z ≡ true → before x z ≡ true) → before (a ∷ x) (c ∷ z) ≡ true
    go (inl h) (inl k) more = first-less a c x z (omega arith)
    go (inl h) (inr (k, g)) more = first-less a c x z (omega arith)
    go (inr (h, d)) (inl k) more = first-less a c x z (omega arith)
    go (inr (h, d)) (inr (k, g)) more = first-same a c x z (omega arith) (more d g)

pub before-total : (x y : Name) → before x y ≡ false → before y x ≡ false → x ≡ y
unfolding before
before-total [] [] e f = refl
before-total [] (b ∷ y) e f = never (sym e)
before-total (a ∷ x) [] e f = never (sym f)
before-total (a ∷ x) (b ∷ y) e f =
    let v = firsts-not a b x y e in
    let w = firsts-not b a y x f in
    let h = v.0 in
    let k = w.0 in
    let d : a ≡ b = omega arith in
    rw (d, before-total x y (v.1 d) (w.1 (sym d)))

-- a name before one that z is not before
pub before-up : (x y z : Name) → before x y ≡ true → before z y ≡ false → before x z ≡ true
before-up x y z e f = split (before y z) (λ h. before-then x y z e h) (λ h. (rw (before-total y z h f) at e))
