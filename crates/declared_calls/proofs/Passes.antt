-- Names looked at in their order, up to a bound: what is known of those behind it, and how many are left.
use mathlib.Core.Path.{◌∙◌, ◌≡◌, refl, sym}
use mathlib.Core.Bool.{◌&&◌, ◌||◌, Bool, cond, false, not, true}
use mathlib.Core.List.{[], ◌∷◌, List}
use Prim.Native.Nat.{◌<◌, ◌≤◌, suc, ℕ}
use lib.Dec.{leb}
use borrow.Author.Tests.{leb-false, leb-true, not-true}
use native.Mathlib.Omega.{arith}
use Rattle.missing_call.proofs.Minimum.{least-all, least-some, Lowest, not_before}
use Rattle.missing_call.proofs.Order.{before_self, before-then, before-total}
use Rattle.missing_call.specs.Least.{above, before, least, missing, of_class}
use Rattle.parlog.proofs.Bools.{and-true, never, not_so, or_left, or_right, split, true-and}
use Rattle.text_names.specs.Names.{known, Name}
use Rattle.text_program.specs.Parsing.{all_of}

-- ---- tests of each name

module _ {A : Type 0} (p q r : A → Bool) where
  all-always : ((x : A) → p x ≡ true) → (xs : List A) → all_of p xs ≡ true
  unfolding all_of
  all-always h [] = refl
  all-always h (x ∷ xs) = rw (h x) (all-always h xs)

  all_both : ((x : A) → p x ≡ true → q x ≡ true → r x ≡ true) → (xs : List A) → all_of p xs ≡ true → all_of q xs ≡ true → all_of r xs ≡ true
  unfolding all_of
  all_both h [] e f = refl
  all_both h (x ∷ xs) e f =
      let v = and-true (p x) (all_of p xs) e in
      let w = and-true (q x) (all_of q xs) f in
      true-and (r x) (all_of r xs) (h x v.0 w.0) (all_both h xs v.1 w.1)

-- ---- how many pass a test

unfoldable pub count : (Name → Bool) → List Name → ℕ
count p [] = 0
count p (x ∷ xs) = cond (p x) (suc (count p xs)) (count p xs)

module _ (p q : Name → Bool) (h : (x : Name) → q x ≡ true → p x ≡ true) where
  count_most : (xs : List Name) → count q xs ≤ count p xs
  unfolding count
  count_most [] = omega arith
  count_most (x ∷ xs) = go (p x) (q x) (h x) (count_most xs)
    where
      go : (a b : Bool) → (b ≡ true → a ≡ true) → count q xs ≤ count p xs → cond b (suc (count q xs)) (count q xs) ≤ cond a (suc (count p xs)) (count p xs)
      go true true f i = omega arith
      go true false f i = omega arith
      go false true f i = never (f refl)
      go false false f i = i

  -- as many as pass the weaker test pass both
  count_same : (xs : List Name) → count p xs ≤ count q xs → all_of (λ (x : Name). not (p x) || q x) xs ≡ true
  unfolding count all_of
  count_same [] i = refl
  count_same (x ∷ xs) i = go (p x) (q x) (h x) i (count_most xs) (λ k. count_same xs k)
    where
      go : (a b : Bool) → (b ≡ true → a ≡ true) → cond a (suc (count p xs)) (count p xs) ≤ cond b (suc (count q xs)) (count q xs) → count q xs ≤ count p xs →
          (count p xs ≤ count q xs → all_of (λ (x : Name). not (p x) || q x) xs ≡ true) → ((not a || b) && all_of (λ (x : Name). not (p x) || q x) xs) ≡ true
      go true true f i j more = more (omega arith)
      go true false f i j more = absurd (omega arith)
      go false true f i j more = never (f refl)
      go false false f i j more = more i

  count_less : (xs : List Name) (y : Name) → ((ok : Name → Bool) → all_of ok xs ≡ true → ok y ≡ true) → p y ≡ true → q y ≡ false → count q xs < count p xs
  count_less xs y among e f = go (leb (count p xs) (count q xs)) refl
    where
      go : (b : Bool) → leb (count p xs) (count q xs) ≡ b → count q xs < count p xs
      go true k = never (rw (e, f) at (among (λ (x : Name). not (p x) || q x) (count_same xs (leb-true (count p xs) (count q xs) k))))
      go false k = leb-false (count p xs) (count q xs) k

-- ---- the passes

-- a name of class k is known
abbrev classed : ℕ → List Name → Name → Bool
classed k ks x = not (of_class k x) || known ks x

-- it is behind the bound, or it is known
abbrev pub settled : ℕ → List Name → List Name → Name → Bool
settled k ks bs x = not (of_class k x) || (above bs x || known ks x)

-- known are the names ks: those of class k that a table ts has, and others rs
module _ (k : ℕ) (ks ts rs xs : List Name) (both : (x : Name) → of_class k x ≡ true → known ks x ≡ (known ts x || known rs x)) where
  in_table : (x : Name) → of_class k x ≡ true → known ts x ≡ true → known ks x ≡ true
  in_table x c e = both x c ∙ rw e refl

  pub pass-start : all_of (settled k ks []) xs ≡ true
  pass-start = all-always (settled k ks []) (settled k ks []) (settled k ks []) (λ x. or_right (not (of_class k x)) true refl) xs

  module _ (bs : List Name) (here : all_of (settled k ks bs) xs ≡ true) where
    -- a name that is not looked for
    not_left : (x : Name) → missing k ts bs x ≡ false → settled k ks bs x ≡ true → classed k ks x ≡ true
    unfolding missing
    not_left x e f = go (of_class k x) (above bs x) (known ts x) (in_table x) e f
      where
        go : (c a b : Bool) → (c ≡ true → b ≡ true → known ks x ≡ true) → (c && (a && not b)) ≡ false → (not c || (a || known ks x)) ≡ true → (not c || known ks x) ≡ true
        go true true true d e f = d refl refl
        go true true false d e f = never (sym e)
        go true false b d e f = f
        go false a b d e f = refl

    -- none is left
    pub pass-end : least (missing k ts bs) [] xs ≡ [] → all_of (classed k ks) xs ≡ true
    pass-end e =
        all_both (λ (x : Name). not (missing k ts bs x)) (settled k ks bs) (classed k ks) (λ x h j. not_left x (not-true (missing k ts bs x) h) j) xs (least-all (missing k ts bs) xs e) here

    module _ (y : Name) (found : least (missing k ts bs) [] xs ≡ y ∷ []) where
      here-low : Lowest (missing k ts bs) xs y []
      here-low = least-some (missing k ts bs) y [] xs found

      above-here : (of_class k y ≡ true) × (above bs y ≡ true) × (known ts y ≡ false)
      unfolding missing
      above-here =
          let w = and-true (of_class k y) (above bs y && not (known ts y)) here-low.wanted in
          let v = and-true (above bs y) (not (known ts y)) w.1 in
          (w.0, v.0, not-true (known ts y) v.1)

      -- one is left that is not known
      pub pass-stop : known rs y ≡ false → all_of (classed k ks) xs ≡ false
      pass-stop e = not_so (all_of (classed k ks) xs) (λ h. never (sym unknown ∙ here-low.among (classed k ks) h))
        where
          unknown : classed k ks y ≡ false
          unknown = rw above-here.0 (both y above-here.0 ∙ rw (above-here.2, e) refl)

      -- one is left, and it is known
      pub pass_on : known rs y ≡ true → all_of (settled k ks (y ∷ [])) xs ≡ true
      pass_on e = all_both (not_before (missing k ts bs) y) (settled k ks bs) (settled k ks (y ∷ [])) one xs here-low.lowest here
        where
          known-here : known ks y ≡ true
          known-here = both y above-here.0 ∙ or_right (known ts y) (known rs y) e

          asked-not : (a b : Bool) → not (a && b) ≡ true → b ≡ true → a ≡ false
          asked-not true true h j = never h
          asked-not true false h j = never j
          asked-not false b h j = refl

          -- a name that is known is settled by any bound
          known-settled : (c a b : Bool) → (c || b) ≡ true → (c || (a || b)) ≡ true
          known-settled true a b h = refl
          known-settled false a b h = or_right a b h

          one : (x : Name) → not_before (missing k ts bs) y x ≡ true → settled k ks bs x ≡ true → settled k ks (y ∷ []) x ≡ true
          one x h j =
              split (before y x) (λ a. or_right (not (of_class k x)) (before y x || known ks x) (or_left (before y x) (known ks x) a))
              (λ a. known-settled (not (of_class k x)) (before y x) (known ks x)
              (split (before x y) (λ b. not_left x (asked-not (missing k ts bs x) (before x y) h b) j)
              (λ b. or_right (not (of_class k x)) (known ks x) (rw (before-total x y b a) known-here))))

      -- fewer are left
      pub pass-less : count (above (y ∷ [])) xs < count (above bs) xs
      pass-less = count_less (above bs) (above (y ∷ [])) (λ x e. behind bs x above-here.1 e) xs y here-low.among above-here.1 (before_self y)
        where
          behind : (bs : List Name) (x : Name) → above bs y ≡ true → before y x ≡ true → above bs x ≡ true
          behind [] x e f = refl
          behind (b ∷ bs) x e f = before-then b y x e f
