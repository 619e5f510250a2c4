-- One call: whether its name is looked for, and which of two names is the lesser.
use mathlib.Core.Path.{◌∙◌, ◌≡◌, ap, refl, sym}
use mathlib.Core.Bool.{◌&&◌, Bool, false, not, true}
use mathlib.Core.List.{[], ◌∷◌, List}
use Prim.Native.Nat.{◌≤◌, ℕ}
use lib.ListN.{drop, length, take}
use borrow.Author.Tests.{not-false, not-true}
use Rattle.std.specs.Prelude.{None, Option, Some}
use Rattle.missing_call.specs.Least.{above, before, in_class, least, missing, of_class}
use Rattle.missing_call.specs.Sees.{least_of, one_at, OneIn, Within}
use Rattle.missing_call.specs.declared.Asked.{Asked}
use Rattle.missing_call.specs.declared.Seen.{Seen}
use Rattle.name_index.specs.Index.{chain_of}
use Rattle.read_names.specs.Tables.{names_at}
use Rattle.text_names.specs.Bytes.{front}
use Rattle.text_names.specs.Names.{known, Name}

-- ---- a name that is looked for

module _ (k : ℕ) (ts bs : List Name) (x : Name) where
  other-class : of_class k x ≡ false → false ≡ missing k ts bs x
  unfolding missing
  other-class e = rw e refl

  known-one : known ts x ≡ true → false ≡ missing k ts bs x
  unfolding missing
  known-one e = rw e (go (of_class k x) (above bs x))
    where
      go : (a b : Bool) → false ≡ (a && (b && false))
      go true true = refl
      go true false = refl
      go false b = refl

  new-one : of_class k x ≡ true → known ts x ≡ false → above bs x ≡ missing k ts bs x
  unfolding missing
  new-one e f = rw (e, f) (go (above bs x))
    where
      go : (b : Bool) → b ≡ (b && true)
      go true = refl
      go false = refl

-- the name at q is looked for
abbrev asked_for : List ℕ → List ℕ → Asked → ℕ → Bool
asked_for s t a q = missing a.class (names_at s (take a.count t)) (one_at s a.bound) (front (drop q s))

module _ (s t : List ℕ) (a : Asked) (q h : ℕ) (chain : h ≡ chain_of (front (drop q s))) (c : Bool) (class : c ≡ in_class a.class h) where
  of-class : c ≡ of_class a.class (front (drop q s))
  of-class = class ∙ ap (in_class a.class) chain

  pub missing-class : not c ≡ true → false ≡ asked_for s t a q
  missing-class e = other-class a.class (names_at s (take a.count t)) (one_at s a.bound) (front (drop q s)) (sym of-class ∙ not-true c e)

  module _ (f : Bool) (found : f ≡ known (names_at s (take a.count t)) (front (drop q s))) where
    pub missing-known : f ≡ true → false ≡ asked_for s t a q
    missing-known e = known-one a.class (names_at s (take a.count t)) (one_at s a.bound) (front (drop q s)) (sym found ∙ e)

    module _ (of : not c ≡ false) (new : f ≡ false) where
      asked-above : above (one_at s a.bound) (front (drop q s)) ≡ asked_for s t a q
      asked-above = new-one a.class (names_at s (take a.count t)) (one_at s a.bound) (front (drop q s)) (sym of-class ∙ not-false c of) (sym found ∙ new)

      pub missing-above : (p : ℕ) (r : Bool) → a.bound ≡ Some p → r ≡ before (front (drop p s)) (front (drop q s)) → r ≡ asked_for s t a q
      missing-above p r e f = f ∙ sym (ap (λ (b : Option ℕ). above (one_at s b) (front (drop q s))) e) ∙ asked-above

      pub missing-free : a.bound ≡ None → true ≡ asked_for s t a q
      missing-free e = sym (ap (λ (b : Option ℕ). above (one_at s b) (front (drop q s))) e) ∙ asked-above

-- ---- the lesser of two

module _ (asked : Name → Bool) (x : Name) where
  none_kept : (m : List Name) → asked x ≡ false → m ≡ least asked m (x ∷ [])
  unfolding least
  none_kept m e = rw e

  module _ (is : asked x ≡ true) where
    first-kept : x ∷ [] ≡ least asked [] (x ∷ [])
    unfolding least
    first-kept = rw is

    lesser-kept : (y : Name) → before x y ≡ true → x ∷ [] ≡ least asked (y ∷ []) (x ∷ [])
    unfolding least
    lesser-kept y e = rw (is, e)

    other-kept : (y : Name) → before x y ≡ false → y ∷ [] ≡ least asked (y ∷ []) (x ∷ [])
    unfolding least
    other-kept y e = rw (is, e)

-- ---- the ways through a call

-- the least name with that at q, and the walk stays where it is
abbrev pub Called : List ℕ → List ℕ → Asked → Seen → ℕ → Seen → Type 0
Called s t a w q r = (one_at s r.at ≡ least_of s t a w (front (drop q s) ∷ [])) × OneIn s r.at × (r.end ≡ w.end)

module _ {s : List ℕ} (t : List ℕ) (a : Asked) {w : Seen} (q : ℕ) (here : Within s w) (c : Bool) (asked : c ≡ asked_for s t a q) where
  abbrev wanted : Name → Bool
  wanted = missing a.class (names_at s (take a.count t)) (one_at s a.bound)

  pub call_none : not c ≡ true → Called s t a w q w
  call_none e = (none_kept wanted (front (drop q s)) (one_at s w.at) (sym asked ∙ not-true c e), here.within, refl)

  module _ (is : not c ≡ false) where
    pub call-first : q ≤ length s → w.at ≡ None → Called s t a w q (record { end = w.end; at = Some q })
    call-first i e = (rw e (first-kept wanted (front (drop q s)) (sym asked ∙ not-false c is)), i, refl)

    module _ (p : ℕ) (r : Bool) (some : w.at ≡ Some p) (less : r ≡ before (front (drop q s)) (front (drop p s))) where
      pub call-lesser : q ≤ length s → not r ≡ false → Called s t a w q (record { end = w.end; at = Some q })
      call-lesser i h = (rw some (lesser-kept wanted (front (drop q s)) (sym asked ∙ not-false c is) (front (drop p s)) (sym less ∙ not-false r h)), i, refl)

      pub call-other : not r ≡ true → Called s t a w q w
      call-other h = (rw some (other-kept wanted (front (drop q s)) (sym asked ∙ not-false c is) (front (drop p s)) (sym less ∙ not-true r h)), here.within, refl)
