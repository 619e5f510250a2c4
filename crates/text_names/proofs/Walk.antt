-- One turn of the loops over names and blanks.
use mathlib.Core.Path.{◌∙◌, ◌≡◌, ap, refl, sym}
use mathlib.Core.Bool.{Bool, false, false≢true, not, true}
use mathlib.Core.List.{[], ◌∷◌, List}
use Prim.Native.Nat.{◌+◌, ◌<◌, ◌≤◌, ℕ}
use lib.Dec.{leb}
use lib.ListN.{drop, drop_of_length-le, get_or, get_or-eq_default, length}
use lib.Seq.{drop-cons, drop-drop}
use borrow.Author.Tests.{eq-eqb, leb-false, leb-true, ne_eqb, not-false, not-true}
use native.Mathlib.Omega.{arith}
use native.Mathlib.Numerals.{add-one}
use Rattle.text_names.specs.Bytes.{back, front, is_blank, is_capital, is_name, is_small, next, skip}
use Rattle.text_names.specs.Names.{same_name}

-- ---- one turn of the loops over blanks and over a name

module _ (s : List ℕ) (i : ℕ) where
  pub skip_stop : (r : Bool) → i < length s → r ≡ is_blank (get_or s i 0) → not r ≡ true → drop i s ≡ skip (drop i s)
  unfolding skip
  skip_stop r h e f = rw (drop-cons s i 0, ← e, not-true r f)

  pub skip-go : (r : Bool) → i < length s → r ≡ is_blank (get_or s i 0) → not r ≡ false → skip (drop i s) ≡ skip (drop (i + 1) s)
  unfolding skip
  skip-go r h e f = rw (add-one, drop-cons s i 0, ← e, not-false r f)

  pub skip-none : length s ≤ i → drop i s ≡ skip (drop i s)
  unfolding skip
  skip-none h = rw (drop_of_length-le s h)

  pub back-stop : (r : Bool) → i < length s → r ≡ is_name (get_or s i 0) → not r ≡ true → drop i s ≡ back (drop i s)
  unfolding back
  back-stop r h e f = rw (drop-cons s i 0, ← e, not-true r f)

  pub back-go : (r : Bool) → i < length s → r ≡ is_name (get_or s i 0) → not r ≡ false → back (drop i s) ≡ back (drop (i + 1) s)
  unfolding back
  back-go r h e f = rw (add-one, drop-cons s i 0, ← e, not-false r f)

  pub back_none : length s ≤ i → drop i s ≡ back (drop i s)
  unfolding back
  back_none h = rw (drop_of_length-le s h)

-- ---- the names at two places

module _ (s : List ℕ) (i : ℕ) where
  -- a byte of a name is inside
  pub name_in : is_name (get_or s i 0) ≡ true → i < length s
  unfolding is_name is_small is_capital
  name_in e = go (leb (length s) i) refl
    where
      go : (b : Bool) → leb (length s) i ≡ b → i < length s
      go true f = absurd (false≢true (rw (get_or-eq_default s 0 (leb-true (length s) i f)) at e))
      go false f = omega (arith, leb-false (length s) i f)

  pub front-on : is_name (get_or s i 0) ≡ true → front (drop i s) ≡ get_or s i 0 ∷ front (drop (i + 1) s)
  unfolding front
  front-on e = let h = name_in e in rw (add-one, drop-cons s i 0, e)

  pub front-off : is_name (get_or s i 0) ≡ false → front (drop i s) ≡ []
  unfolding front
  front-off e = go (leb (length s) i) refl
    where
      go : (b : Bool) → leb (length s) i ≡ b → front (drop i s) ≡ []
      go true f = let h = leb-true (length s) i f in rw (drop_of_length-le s h)
      go false f = let h : i < length s = omega (arith, leb-false (length s) i f) in rw (drop-cons s i 0, e)

module _ (s : List ℕ) (i j p q : ℕ) (ep : p ≡ get_or s i 0) (eq : q ≡ get_or s j 0) where
  pub same_stop : (r t : Bool) → r ≡ is_name p → t ≡ is_name q → not r ≡ true → not t ≡ same_name (front (drop i s)) (front (drop j s))
  unfolding same_name
  same_stop r t e f g = rw (front-off s i (ap is_name (sym ep) ∙ sym e ∙ not-true r g)) (go t f)
    where
      go : (t : Bool) → t ≡ is_name q → not t ≡ same_name [] (front (drop j s))
      go true f = rw (front-on s j (ap is_name (sym eq) ∙ sym f))
      go false f = rw (front-off s j (ap is_name (sym eq) ∙ sym f))

  pub same-differ : (r : Bool) → r ≡ is_name p → not r ≡ false → (p ≡ q → ⊥) → false ≡ same_name (front (drop i s)) (front (drop j s))
  unfolding same_name
  same-differ r e g h = rw (front-on s i (ap is_name (sym ep) ∙ sym e ∙ not-false r g)) (go (is_name q) refl)
    where
      go : (t : Bool) → is_name q ≡ t → false ≡ same_name (get_or s i 0 ∷ front (drop (i + 1) s)) (front (drop j s))
      go true f = rw (front-on s j (ap is_name (sym eq) ∙ f), ← ep, ← eq, ne_eqb p q h)
      go false f = rw (front-off s j (ap is_name (sym eq) ∙ f))

  pub same-go : (r : Bool) → r ≡ is_name p → not r ≡ false → p ≡ q →
      (same_name (front (drop i s)) (front (drop j s)) ≡ same_name (front (drop (i + 1) s)) (front (drop (j + 1) s))) × (i < length s) × (j < length s)
  unfolding same_name
  same-go r e g h =
      let a = ap is_name (sym ep) ∙ sym e ∙ not-false r g in
      let b = ap is_name (sym eq) ∙ ap is_name (sym h) ∙ sym e ∙ not-false r g in
      (rw (front-on s i a, front-on s j b, ← ep, ← eq, eq-eqb p q h), name_in s i a, name_in s j b)

-- ---- a mark

pub mark-in : (s : List ℕ) (i r : ℕ) → drop r s ≡ skip (drop (i + 1) s) → drop r s ≡ next (drop i s)
mark-in s i r e = e ∙ sym (ap skip (drop-drop 1 i s))

pub mark-out : (s : List ℕ) (i : ℕ) → length s ≤ i → drop i s ≡ next (drop i s)
unfolding skip
mark-out s i h = rw (drop_of_length-le s h)
