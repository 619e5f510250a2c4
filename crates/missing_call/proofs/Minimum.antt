-- The least of some names is one of them that is looked for, and no other such one is before it.
use mathlib.Core.Path.{◌∙◌, ◌≡◌, ap, refl, sym}
use mathlib.Core.Bool.{◌&&◌, Bool, cond, false, not, true}
use mathlib.Core.List.{[], ◌∷◌, List}
use lib.ListN.{drop, get_or, length}
use native.Mathlib.Omega.{arith}
use Rattle.missing_call.proofs.Order.{before_self, before-then, before-up}
use Rattle.missing_call.specs.Least.{before, least, lesser, seen}
use Rattle.parlog.proofs.Bools.{and-true, never, not_so, true-and}
use Rattle.text_names.specs.Names.{Name}
use Rattle.text_program.specs.Parsing.{all_of}

-- a name that is looked for is not before y
abbrev pub not_before : (Name → Bool) → Name → Name → Bool
not_before asked y x = not (asked x && before x y)

-- of the names xs, y is one that is looked for, and none of these is before it
pub record Lowest (asked : Name → Bool) (xs : List Name) (y : Name) (ys : List Name) : Type 0 where
  pub one : ys ≡ []
  pub wanted : asked y ≡ true
  pub among : (ok : Name → Bool) → all_of ok xs ≡ true → ok y ≡ true
  pub lowest : all_of (not_before asked y) xs ≡ true

module _ {asked : Name → Bool} {y : Name} {ys : List Name} where
  -- one name more in front
  lowest-more : {xs : List Name} (x : Name) → not_before asked y x ≡ true → Lowest asked xs y ys → Lowest asked (x ∷ xs) y ys
  unfolding all_of
  lowest-more {xs} x e l = record {
    one = l.one;
    wanted = l.wanted;
    among = λ ok h. l.among ok (and-true (ok x) (all_of ok xs) h).1;
    lowest = true-and (not_before asked y x) (all_of (not_before asked y) xs) e l.lowest;
  }

  -- one name more behind the first
  lowest-under : {xs : List Name} (z x : Name) → not_before asked y x ≡ true → Lowest asked (z ∷ xs) y ys → Lowest asked (z ∷ x ∷ xs) y ys
  unfolding all_of
  lowest-under {xs} z x e l =
      let w = and-true (not_before asked y z) (all_of (not_before asked y) xs) l.lowest in
      record {
        one = l.one;
        wanted = l.wanted;
        among = λ ok h.
            let k = and-true (ok z) (ok x && all_of ok xs) h in
            l.among ok (true-and (ok z) (all_of ok xs) k.0 (and-true (ok x) (all_of ok xs) k.1).1);
        lowest = true-and (not_before asked y z) (not_before asked y x && all_of (not_before asked y) xs) w.0 (true-and (not_before asked y x) (all_of (not_before asked y) xs) e w.1);
      }

  lowest-first : {xs : List Name} (z : Name) → asked z ≡ true → Lowest asked (z ∷ xs) y ys → before z y ≡ false
  unfolding all_of
  lowest-first {xs} z e l = go (before z y) (rw e at (and-true (not_before asked y z) (all_of (not_before asked y) xs) l.lowest).0)
    where
      go : (b : Bool) → not (true && b) ≡ true → b ≡ false
      go true h = never h
      go false h = refl

-- a test of a name that is not looked for, or of one that is not before y
not-asked : (asked : Name → Bool) (y x : Name) → asked x ≡ false → not_before asked y x ≡ true
not-asked asked y x e = rw e refl

not-less : (asked : Name → Bool) (y x : Name) → before x y ≡ false → not_before asked y x ≡ true
not-less asked y x e = go (asked x)
  where
    go : (b : Bool) → not (b && before x y) ≡ true
    go true = rw e refl
    go false = refl

module _ (asked : Name → Bool) (y : Name) (ys : List Name) where
  -- from a name on that is looked for
  least-from : (z : Name) (xs : List Name) → asked z ≡ true → least asked (z ∷ []) xs ≡ y ∷ ys → Lowest asked (z ∷ xs) y ys
  unfolding least all_of
  least-from z [] h e =
      let f : z ≡ y = ap (λ (l : List Name). get_or l 0 []) e in
      record {
        one = sym (ap (λ (l : List Name). drop 1 l) e);
        wanted = rw (← f) h;
        among = λ ok k. (rw f at (and-true (ok z) true k).0);
        lowest = rw (not-less asked y z (rw f (before_self y))) refl;
      }
  least-from z (x ∷ xs) h e = go (asked x) refl e (λ v g k. least-from v xs g k)
    where
      More : Type 0
      More = (v : Name) → asked v ≡ true → least asked (v ∷ []) xs ≡ y ∷ ys → Lowest asked (v ∷ xs) y ys

      turn : (c : Bool) → before x z ≡ c → asked x ≡ true → least asked (cond c (x ∷ []) (z ∷ [])) xs ≡ y ∷ ys → More → Lowest asked (z ∷ x ∷ xs) y ys
      turn true f g e more =
          let l = more x g e in
          let k = lowest-first x g l in
          lowest-more z (not-less asked y z (not_so (before z y) (λ d. never (sym k ∙ before-then x z y f d)))) l
      turn false f g e more =
          let l = more z h e in
          let k = lowest-first z h l in
          lowest-under z x (not-less asked y x (not_so (before x y) (λ d. never (sym f ∙ before-up x y z d k)))) l

      go : (b : Bool) → asked x ≡ b → least asked (cond b (lesser (z ∷ []) x) (z ∷ [])) xs ≡ y ∷ ys → More → Lowest asked (z ∷ x ∷ xs) y ys
      go true f e more = turn (before x z) refl f e more
      go false f e more = lowest-under z x (not-asked asked y x f) (more z h e)

  -- the least of some names
  pub least-some : (xs : List Name) → least asked [] xs ≡ y ∷ ys → Lowest asked xs y ys
  unfolding least
  least-some [] e = absurd (omega (arith, ap length e))
  least-some (x ∷ xs) e = go (asked x) refl e (λ k. least-some xs k)
    where
      go : (b : Bool) → asked x ≡ b → least asked (cond b (x ∷ []) []) xs ≡ y ∷ ys → (least asked [] xs ≡ y ∷ ys → Lowest asked xs y ys) → Lowest asked (x ∷ xs) y ys
      go true f e more = least-from x xs f e
      go false f e more = lowest-more x (not-asked asked y x f) (more e)

-- none of the names is looked for
module _ (asked : Name → Bool) where
  lesser-some : (m : List Name) (x : Name) → lesser m x ≡ [] → ⊥
  lesser-some [] x e = omega (arith, ap length e)
  lesser-some (y ∷ ys) x e = go (before x y) e
    where
      go : (b : Bool) → cond b (x ∷ []) (y ∷ ys) ≡ [] → ⊥
      go true e = omega (arith, ap length e)
      go false e = omega (arith, ap length e)

  none_from : (xs m : List Name) → least asked m xs ≡ [] → (m ≡ []) × (all_of (λ (x : Name). not (asked x)) xs ≡ true)
  unfolding least all_of
  none_from [] m e = (e, refl)
  none_from (x ∷ xs) m e = let w = none_from xs (seen asked m x) e in go (asked x) w.0 w.1
    where
      go : (b : Bool) → cond b (lesser m x) m ≡ [] → all_of (λ (x : Name). not (asked x)) xs ≡ true → (m ≡ []) × ((not b && all_of (λ (x : Name). not (asked x)) xs) ≡ true)
      go true f h = absurd (lesser-some m x f)
      go false f h = (f, h)

  pub least-all : (xs : List Name) → least asked [] xs ≡ [] → all_of (λ (x : Name). not (asked x)) xs ≡ true
  least-all xs e = (none_from xs [] e).1
