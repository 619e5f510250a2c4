-- The loop over two names.
use mathlib.Core.Path.{◌∙◌, ◌≡◌, ap, refl, sym}
use mathlib.Core.Bool.{Bool, false, not, or_comm, true}
use mathlib.Core.List.{[], ◌∷◌, List}
use Prim.Native.Nat.{◌+◌, ◌-◌, ◌<◌, ◌≤◌, ℕ}
use lib.Dec.{ltb}
use lib.ListN.{drop, drop_of_length-le, get_or, length}
use borrow.Author.Tests.{eq-eqb, le-ltb, ne_eqb, not-false, not-true}
use native.Mathlib.Omega.{arith}
use Rattle.missing_call.specs.Least.{before}
use Rattle.text_names.proofs.Walk.{front-off, front-on, name_in}
use Rattle.text_names.specs.Bytes.{front, is_name}

none_before : (x : List ℕ) → false ≡ before x []
unfolding before
none_before x = refl

module _ (s : List ℕ) (i j a b : ℕ) (ea : a ≡ get_or s i 0) (eb : b ≡ get_or s j 0) where
  pub second-ends : (r : Bool) → r ≡ is_name b → not r ≡ true → false ≡ before (front (drop i s)) (front (drop j s))
  second-ends r e f = rw (front-off s j (ap is_name (sym eb) ∙ sym e ∙ not-true r f)) (none_before (front (drop i s)))

  module _ (r : Bool) (e : r ≡ is_name b) (f : not r ≡ false) where
    second-on : front (drop j s) ≡ b ∷ front (drop (j + 1) s)
    second-on = rw (eb) (front-on s j (ap is_name (sym eb) ∙ sym e ∙ not-false r f))

    pub first_ends : (t : Bool) → t ≡ is_name a → not t ≡ true → true ≡ before (front (drop i s)) (front (drop j s))
    unfolding before
    first_ends t g h = rw (second-on, front-off s i (ap is_name (sym ea) ∙ sym g ∙ not-true t h))

    module _ (t : Bool) (g : t ≡ is_name a) (h : not t ≡ false) where
      first_on : front (drop i s) ≡ a ∷ front (drop (i + 1) s)
      first_on = rw (ea) (front-on s i (ap is_name (sym ea) ∙ sym g ∙ not-false t h))

      pub bytes-differ : (a ≡ b → ⊥) → ltb a b ≡ before (front (drop i s)) (front (drop j s))
      unfolding before
      bytes-differ n = rw (second-on, first_on, ne_eqb a b n) (or_comm false (ltb a b))

      pub both_go : a ≡ b → (before (front (drop i s)) (front (drop j s)) ≡ before (front (drop (i + 1) s)) (front (drop (j + 1) s))) × (i < length s) × (j < length s)
      unfolding before
      both_go n =
          (rw (second-on, first_on, eq-eqb a b n, le-ltb a b (omega arith)), name_in s i (ap is_name (sym ea) ∙ sym g ∙ not-false t h), name_in s j (ap is_name (sym eb) ∙ sym e ∙ not-false r f))

-- ---- the loop

-- the names at p and q are as those at j and as far behind p
pub record Compared (s : List ℕ) (p q j : ℕ) : Type 0 where
  pub from : q ≤ j
  pub inside : j ≤ length s
  pub same : before (front (drop (p + (j - q)) s)) (front (drop j s)) ≡ before (front (drop p s)) (front (drop q s))

-- how far behind p a place is
at : {i k : ℕ} (s : List ℕ) (j : ℕ) → i ≡ k → before (front (drop i s)) (front (drop j s)) ≡ before (front (drop k s)) (front (drop j s))
at s j e = ap (λ (i : ℕ). before (front (drop i s)) (front (drop j s))) e

module _ (s : List ℕ) (p q : ℕ) where
  pub compared-start : q ≤ length s → Compared s p q q
  compared-start h = record { from = omega arith; inside = h; same = at s q (omega arith) }

  module _ (j : ℕ) (here : Compared s p q j) where
    pub compared-on : j < length s → before (front (drop (p + (j - q)) s)) (front (drop j s)) ≡ before (front (drop (p + (j - q) + 1) s)) (front (drop (j + 1) s)) → Compared s p q (j + 1)
    compared-on h e =
        let f = here.from in
        record { from = omega arith; inside = omega arith; same = at s (j + 1) (omega arith) ∙ sym e ∙ here.same }

    -- the second name ends with the text
    pub compared-end : length s ≤ j → false ≡ before (front (drop p s)) (front (drop q s))
    unfolding front
    compared-end h = (rw (drop_of_length-le s h) (none_before (front (drop (p + (j - q)) s)))) ∙ here.same
