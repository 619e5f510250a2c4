-- Rows that are joined, and tests of all items of a row.
use mathlib.Core.Path.{◌∙◌, ◌≡◌, ap, refl, sym}
use mathlib.Core.Bool.{◌&&◌, and_assoc, Bool, cond, false, true}
use mathlib.Core.List.{[], ◌++◌, ◌∷◌, append_assoc, append-nil, List}
use Prim.Native.Nat.{◌≤◌, suc}
use lib.ListN.{length}
use native.Mathlib.Omega.{arith}
use Rattle.parlog.proofs.Bools.{and-true}
use Rattle.text_names.specs.Names.{Name}
use Rattle.text_program.specs.Numbered.{is_upper, joined, lowers, uppers}
use Rattle.text_program.specs.Parsing.{all_of}

-- ---- rows joined

module _ {A B : Type 0} (f : A → List B) where
  pub joined-none : joined f [] ≡ []
  unfolding joined
  joined-none = refl

  pub joined-cons : (x : A) (xs : List A) → joined f (x ∷ xs) ≡ f x ++ joined f xs
  unfolding joined
  joined-cons x xs = refl

  pub joined-one : (x : A) → joined f (x ∷ []) ≡ f x
  unfolding joined
  joined-one x = append-nil (f x)

  pub joined-append : (xs ys : List A) → joined f (xs ++ ys) ≡ joined f xs ++ joined f ys
  unfolding joined
  joined-append [] ys = refl
  joined-append (x ∷ xs) ys = ap (λ (l : List B). f x ++ l) (joined-append xs ys) ∙ sym (append_assoc (f x) (joined f xs) (joined f ys))

pub singles : {A : Type 0} (xs : List A) → joined (λ (x : A). x ∷ []) xs ≡ xs
unfolding joined
singles [] = refl
singles {A = A} (x ∷ xs) = ap (λ (l : List A). x ∷ l) (singles xs)

-- ---- tests of all

module _ {A : Type 0} (ok : A → Bool) where
  pub all_append : (xs ys : List A) → all_of ok (xs ++ ys) ≡ (all_of ok xs && all_of ok ys)
  unfolding all_of
  all_append [] ys = refl
  all_append (x ∷ xs) ys = ap (λ (b : Bool). ok x && b) (all_append xs ys) ∙ sym (and_assoc (ok x) (all_of ok xs) (all_of ok ys))

  pub all-parts : (xs ys : List A) → all_of ok (xs ++ ys) ≡ true → (all_of ok xs ≡ true) × (all_of ok ys ≡ true)
  all-parts xs ys e = and-true (all_of ok xs) (all_of ok ys) (sym (all_append xs ys) ∙ e)

pub all_from : {A : Type 0} (p q : A → Bool) → ((x : A) → p x ≡ true → q x ≡ true) → (xs : List A) → all_of p xs ≡ true → all_of q xs ≡ true
unfolding all_of
all_from p q h [] e = refl
all_from p q h (x ∷ xs) e = let r = and-true (p x) (all_of p xs) e in rw (h x r.0, all_from p q h xs r.1)

-- ---- variables and constants

pub uppers-append : (xs ys : List Name) → uppers (xs ++ ys) ≡ uppers xs ++ uppers ys
unfolding uppers
uppers-append [] ys = refl
uppers-append (x ∷ xs) ys = go (is_upper x) (uppers-append xs ys)
  where
    go : (b : Bool) → uppers (xs ++ ys) ≡ uppers xs ++ uppers ys → cond b (x ∷ uppers (xs ++ ys)) (uppers (xs ++ ys)) ≡ cond b (x ∷ uppers xs) (uppers xs) ++ uppers ys
    go true e = ap (λ (l : List Name). x ∷ l) e
    go false e = e

pub lowers-append : (xs ys : List Name) → lowers (xs ++ ys) ≡ lowers xs ++ lowers ys
unfolding lowers
lowers-append [] ys = refl
lowers-append (x ∷ xs) ys = go (is_upper x) (lowers-append xs ys)
  where
    go : (b : Bool) → lowers (xs ++ ys) ≡ lowers xs ++ lowers ys → cond b (lowers (xs ++ ys)) (x ∷ lowers (xs ++ ys)) ≡ cond b (lowers xs) (x ∷ lowers xs) ++ lowers ys
    go true e = e
    go false e = ap (λ (l : List Name). x ∷ l) e

pub lowers-length : (xs : List Name) → length (lowers xs) ≤ length xs
unfolding lowers
lowers-length [] = omega arith
lowers-length (x ∷ xs) = go (is_upper x) (lowers-length xs)
  where
    go : (b : Bool) → length (lowers xs) ≤ length xs → length (cond b (lowers xs) (x ∷ lowers xs)) ≤ suc (length xs)
    go true h = omega arith
    go false h = omega arith
