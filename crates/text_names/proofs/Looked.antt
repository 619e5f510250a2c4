-- Names that are the same, and where a name stands in a row of names.
use mathlib.Core.Path.{◌∙◌, ◌≡◌, ap, refl, sym}
use mathlib.Core.Bool.{◌||◌, and-eq-true_iff, Bool, cond, false, false≢true, or_assoc, or-false, or-true, true}
use mathlib.Core.List.{[], ◌++◌, ◌∷◌, List}
use Prim.Native.Nat.{◌+◌, ◌<◌, ◌≤◌, suc, zero, ℕ}
use lib.Dec.{eqb, ltb}
use lib.ListN.{get_or, length, length-append}
use borrow.Author.Tests.{eq-eqb, eqb-true, le-ltb, lt-ltb, ltb-false, ltb-true}
use native.Mathlib.Omega.{arith}
use Rattle.std.specs.Prelude.{is_some, None, Option, Some}
use Rattle.text_names.specs.Names.{FoundAt, known, look, Name, same_name}

-- ---- the same name

pub same_self : (x : Name) → same_name x x ≡ true
unfolding same_name
same_self [] = refl
same_self (b ∷ x) = rw (eq-eqb b b refl) (same_self x)

pub same-is : (x y : Name) → same_name x y ≡ true → x ≡ y
unfolding same_name
same-is [] [] e = refl
same-is [] (b ∷ y) e = absurd (false≢true e)
same-is (a ∷ x) [] e = absurd (false≢true e)
same-is (a ∷ x) (b ∷ y) e = let w = (and-eq-true_iff (eqb a b) (same_name x y)).0 e in rw (eqb-true a b w.0, same-is x y w.1)

-- ---- where a name stands

pub look-most : (ys : List Name) (x : Name) → look ys x ≤ length ys
unfolding look
look-most [] x = omega arith
look-most (y ∷ ys) x = go (same_name y x) (look-most ys x)
  where
    go : (b : Bool) → look ys x ≤ length ys → cond b 0 (suc (look ys x)) ≤ suc (length ys)
    go true i = omega arith
    go false i = omega arith

-- a name that stands in the first row
pub look-front : (ys zs : List Name) (x : Name) → look ys x < length ys → look (ys ++ zs) x ≡ look ys x
unfolding look
look-front [] zs x h = absurd (omega arith)
look-front (y ∷ ys) zs x h = go (same_name y x) h (look-front ys zs x)
  where
    go : (b : Bool) → cond b 0 (suc (look ys x)) < suc (length ys) → (look ys x < length ys → look (ys ++ zs) x ≡ look ys x) → cond b 0 (suc (look (ys ++ zs) x)) ≡ cond b 0 (suc (look ys x))
    go true h i = refl
    go false h i = ap suc (i (omega arith))

-- a name that does not stand there
pub look-behind : (ys zs : List Name) (x : Name) → look ys x ≡ length ys → look (ys ++ zs) x ≡ length ys + look zs x
unfolding look
look-behind [] zs x h = omega arith
look-behind (y ∷ ys) zs x h = go (same_name y x) h (look-behind ys zs x)
  where
    go : (b : Bool) → cond b 0 (suc (look ys x)) ≡ suc (length ys) → (look ys x ≡ length ys → look (ys ++ zs) x ≡ length ys + look zs x) → cond b 0 (suc (look (ys ++ zs) x)) ≡ suc (length ys) + look zs x
    go true h i = absurd (omega arith)
    go false h i = let e = i (omega arith) in omega arith

-- a name is looked for in front of the place where it stands
pub look-here : (ys zs : List Name) (x : Name) → look (ys ++ (x ∷ zs)) x ≡ look ys x
unfolding look
look-here [] zs x = rw (same_self x)
look-here (y ∷ ys) zs x = ap (λ (n : ℕ). cond (same_name y x) 0 (suc n)) (look-here ys zs x)

-- a name that is none of them
pub look_none : (ys : List Name) (x : Name) → ((i : ℕ) → i < length ys → same_name (get_or ys i []) x ≡ true → ⊥) → look ys x ≡ length ys
unfolding look
look_none [] x h = refl
look_none (y ∷ ys) x h = go (same_name y x) refl (look_none ys x (λ i l e. h (suc i) (omega arith) e))
  where
    go : (b : Bool) → same_name y x ≡ b → look ys x ≡ length ys → cond b 0 (suc (look ys x)) ≡ suc (length ys)
    go true e i = absurd (h 0 (omega arith) e)
    go false e i = ap suc i

-- a name stands where it was looked for, or before
pub look-within : (ys : List Name) (i : ℕ) → i < length ys → look ys (get_or ys i []) ≤ i
unfolding look
look-within [] i h = absurd (omega arith)
look-within (y ∷ ys) zero h = rw (same_self y) (omega arith)
look-within (y ∷ ys) (suc i) h = go (same_name y (get_or ys i [])) (look-within ys i (omega arith))
  where
    go : (b : Bool) → look ys (get_or ys i []) ≤ i → cond b 0 (suc (look ys (get_or ys i []))) ≤ suc i
    go true l = omega arith
    go false l = omega arith

-- what is found is that name
pub look-found : (ys : List Name) (x : Name) → look ys x < length ys → get_or ys (look ys x) [] ≡ x
unfolding look
look-found [] x h = absurd (omega arith)
look-found (y ∷ ys) x h = go (same_name y x) refl h (look-found ys x)
  where
    go : (b : Bool) → same_name y x ≡ b → cond b 0 (suc (look ys x)) < suc (length ys) → (look ys x < length ys → get_or ys (look ys x) [] ≡ x) → get_or (y ∷ ys) (cond b 0 (suc (look ys x))) [] ≡ x
    go true e h more = same-is y x e
    go false e h more = more (omega arith)

-- ---- names that are known

pub not_known : (ys : List Name) (x : Name) → known ys x ≡ false → look ys x ≡ length ys
not_known ys x e = let a = ltb-false (look ys x) (length ys) e in let b = look-most ys x in omega arith

-- where a number was found the name is known
pub found-known : (ys : List Name) (x : Name) (r : Option ℕ) → FoundAt ys x r → is_some r ≡ known ys x
found-known ys x (Some k) f = sym (lt-ltb (look ys x) (length ys) (let a = f.0 in let b = f.1 in omega arith))
found-known ys x None f = sym (le-ltb (look ys x) (length ys) (omega arith))

known-none : (x : Name) → known [] x ≡ false
unfolding look
known-none x = refl

pub known-cons : (y : Name) (ys : List Name) (x : Name) → known (y ∷ ys) x ≡ (same_name y x || known ys x)
unfolding look
known-cons y ys x = go (same_name y x)
  where
    less : (a b : ℕ) (c : Bool) → ltb a b ≡ c → ltb (suc a) (suc b) ≡ c
    less a b true e = lt-ltb (suc a) (suc b) (let h = ltb-true a b e in omega arith)
    less a b false e = le-ltb (suc a) (suc b) (let h = ltb-false a b e in omega arith)

    go : (b : Bool) → ltb (cond b 0 (suc (look ys x))) (suc (length ys)) ≡ (b || known ys x)
    go true = lt-ltb 0 (suc (length ys)) (omega arith)
    go false = less (look ys x) (length ys) (known ys x) refl

pub known-left : (ys zs : List Name) (x : Name) → known ys x ≡ true → known (ys ++ zs) x ≡ true
known-left ys zs x e =
    let b = ltb-true (look ys x) (length ys) e in
    let a = look-front ys zs x b in
    let c = length-append ys zs in
    lt-ltb (look (ys ++ zs) x) (length (ys ++ zs)) (omega arith)

pub known-last : (ys : List Name) (y x : Name) → known (ys ++ (y ∷ [])) x ≡ (known ys x || same_name y x)
known-last [] y x = known-cons y [] x ∙ rw (known-none x) (or-false (same_name y x))
known-last (z ∷ ys) y x =
    known-cons z (ys ++ (y ∷ [])) x ∙ ap (λ (b : Bool). same_name z x || b) (known-last ys y x) ∙ sym (or_assoc (same_name z x) (known ys x) (same_name y x))
    ∙ ap (λ (b : Bool). b || same_name y x) (sym (known-cons z ys x))

pub known-own : (ys : List Name) (x : Name) → known (ys ++ (x ∷ [])) x ≡ true
known-own ys x = known-last ys x x ∙ rw (same_self x) (or-true (known ys x))

-- a name that is known is so once more
pub known-again : (ys : List Name) (y x : Name) → known ys y ≡ true → known ys x ≡ (known ys x || same_name y x)
known-again ys y x e = go (same_name y x) refl
  where
    go : (b : Bool) → same_name y x ≡ b → known ys x ≡ (known ys x || b)
    go true h = rw (← same-is y x h, e) refl
    go false h = sym (or-false (known ys x))
