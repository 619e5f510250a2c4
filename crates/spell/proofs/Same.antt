-- Forms and lists of forms, compared.
use mathlib.Core.Bool.{Bool, ◌&&◌, false, true}
use mathlib.Core.List.{[], ◌∷◌, List}
use mathlib.Core.Path.{◌≡◌, refl}
use Prim.Native.Nat.{◌<◌, ℕ, zero, suc}
use native.Mathlib.Omega.{arith}
use borrow.Author.Tests.{eqb-true, eqb-false}
use lib.Dec.{eqb}
use Rattle.spell.specs.Forms.{Form, ◌or◌, ◌then◌, many, nothing, span}
use Rattle.std.proofs.lemmas.Bool.{and_parts}

abbrev is_nothing : Form → Bool
is_nothing nothing = true
is_nothing (span a n) = false
is_nothing (x then y) = false
is_nothing (x or y) = false
is_nothing (many x) = false

abbrev is_span : ℕ → ℕ → Form → Bool
is_span a n nothing = false
is_span a n (span c m) = eqb a c && eqb n m
is_span a n (x then y) = false
is_span a n (x or y) = false
is_span a n (many x) = false

abbrev is_then : (Form → Bool) → (Form → Bool) → Form → Bool
is_then f g nothing = false
is_then f g (span a n) = false
is_then f g (x then y) = f x && g y
is_then f g (x or y) = false
is_then f g (many x) = false

abbrev is_or : (Form → Bool) → (Form → Bool) → Form → Bool
is_or f g nothing = false
is_or f g (span a n) = false
is_or f g (x then y) = false
is_or f g (x or y) = f x && g y
is_or f g (many x) = false

abbrev is_many : (Form → Bool) → Form → Bool
is_many f nothing = false
is_many f (span a n) = false
is_many f (x then y) = false
is_many f (x or y) = false
is_many f (many x) = f x

unfoldable pub same : Form → Form → Bool
same nothing = is_nothing
same (span a n) = is_span a n
same (x then y) = is_then (same x) (same y)
same (x or y) = is_or (same x) (same y)
same (many x) = is_many (same x)

never : {P : Type 0} → false ≡ true → P
never e = absurd (let z : ◌≡◌ {A = ℕ} 0 1 = cc in omega arith)

pub same-is : (x y : Form) → same x y ≡ true → x ≡ y
unfolding same
same-is nothing nothing e = refl
same-is nothing (span a n) e = never e
same-is nothing (x then y) e = never e
same-is nothing (x or y) e = never e
same-is nothing (many x) e = never e
same-is (span a n) nothing e = never e
same-is (span a n) (span c m) e = let w = and_parts (eqb a c) (eqb n m) e in rw (eqb-true a c w.0, eqb-true n m w.1)
same-is (span a n) (x then y) e = never e
same-is (span a n) (x or y) e = never e
same-is (span a n) (many x) e = never e
same-is (p then q) nothing e = never e
same-is (p then q) (span a n) e = never e
same-is (p then q) (x then y) e = let w = and_parts (same p x) (same q y) e in rw (same-is p x w.0, same-is q y w.1)
same-is (p then q) (x or y) e = never e
same-is (p then q) (many x) e = never e
same-is (p or q) nothing e = never e
same-is (p or q) (span a n) e = never e
same-is (p or q) (x then y) e = never e
same-is (p or q) (x or y) e = let w = and_parts (same p x) (same q y) e in rw (same-is p x w.0, same-is q y w.1)
same-is (p or q) (many x) e = never e
same-is (many p) nothing e = never e
same-is (many p) (span a n) e = never e
same-is (many p) (x then y) e = never e
same-is (many p) (x or y) e = never e
same-is (many p) (many x) e = rw (same-is p x e)

unfoldable pub sames : List Form → List Form → Bool
sames [] [] = true
sames [] (y ∷ ys) = false
sames (x ∷ xs) [] = false
sames (x ∷ xs) (y ∷ ys) = same x y && sames xs ys

pub sames-is : (xs ys : List Form) → sames xs ys ≡ true → xs ≡ ys
unfolding sames
sames-is [] [] e = refl
sames-is [] (y ∷ ys) e = never e
sames-is (x ∷ xs) [] e = never e
sames-is (x ∷ xs) (y ∷ ys) e = let w = and_parts (same x y) (sames xs ys) e in rw (same-is x y w.0, sames-is xs ys w.1)

-- a test of every number below n
unfoldable pub every : (ℕ → Bool) → ℕ → Bool
every t zero = true
every t (suc n) = t n && every t n

cases : {P : Type 0} (b : Bool) → (b ≡ true → P) → (b ≡ false → P) → P
cases true f g = f refl
cases false f g = g refl

pub every-at : (t : ℕ → Bool) (n i : ℕ) → every t n ≡ true → i < n → t i ≡ true
unfolding every
every-at t zero i e h = absurd (omega arith)
every-at t (suc n) i e h =
    let w = and_parts (t n) (every t n) e in
    cases (eqb i n) (λ z. rw (eqb-true i n z) w.0) (λ z. every-at t n i w.1 (omega (arith, eqb-false i n z)))
