-- The tests on numbers are the definitions' tests on what the numbers stand for.
use mathlib.Core.Path.{◌∙◌, ◌≡◌, ap, ap₂, refl, sym}
use mathlib.Core.Bool.{◌&&◌, ◌||◌, Bool, cond, false, not, or_comm, true, or-false, and-true}
use mathlib.Core.List.{[], ◌∷◌, List}
use Prim.Native.Nat.{◌<◌, suc, zero, ℕ}
use lib.Dec.{eqb, leb, ltb}
use lib.ListN.{get_or, length, take}
use borrow.Author.Tests.{le-ltb, lt-leb, lt-ltb, ne_eqb}
use native.Mathlib.Omega.{arith}
use Rattle.std.proofs.lemmas.Bool.{or_right}
use Rattle.parlog.specs.Codes.{is_one_of, tag_code, tag_of}
use Rattle.parlog.specs.Scan.{implies}
use Rattle.parlog.specs.TableRules.{all_below, binding_ok, goal_tags, literal_tags, makes_tag}
use Rattle.parlog.specs.Tables.{binding_by}

-- ---- tags

-- tags of literals, in numbers
abbrev pub literal_code : ℕ → Bool
literal_code t = eqb t 2 || ltb 7 t

-- tags of goals, in numbers
abbrev pub goal_code : ℕ → Bool
goal_code t = ltb t 3 || ltb 7 t

-- who makes whom, in numbers
abbrev pub searched_code : ℕ → ℕ → Bool
searched_code up t = cond (eqb up 4) (eqb t 5) (cond (eqb up 5) (eqb t 6 || eqb t 7) (eqb up 7 && goal_code t))

abbrev pub called_code : ℕ → ℕ → Bool
called_code up t = cond (eqb up 2) (eqb t 3 || goal_code t) (cond (eqb up 3) (eqb t 4) (searched_code up t))

abbrev pub makes_code : ℕ → ℕ → Bool
makes_code up t = cond (eqb up 0) (eqb t 1 || literal_code t) (cond (eqb up 1) (literal_code t || eqb t 0) (called_code up t))

-- a number from 8 on is none below it
off : (n k : ℕ) → k < 8 → eqb (suc (suc (suc (suc (suc (suc (suc (suc n)))))))) k ≡ false
off n k h = ne_eqb _ k (λ e. omega arith)

over : (n : ℕ) → ltb 7 (suc (suc (suc (suc (suc (suc (suc (suc n)))))))) ≡ true
over n = lt-ltb 7 (suc (suc (suc (suc (suc (suc (suc (suc n)))))))) (omega arith)

literal-code : (t : ℕ) → literal_code t ≡ is_one_of literal_tags (tag_of t)
unfolding tag_of
literal-code zero = refl
literal-code (suc zero) = refl
literal-code (suc (suc zero)) = refl
literal-code (suc (suc (suc zero))) = refl
literal-code (suc (suc (suc (suc zero)))) = refl
literal-code (suc (suc (suc (suc (suc zero))))) = refl
literal-code (suc (suc (suc (suc (suc (suc zero)))))) = refl
literal-code (suc (suc (suc (suc (suc (suc (suc zero))))))) = refl
literal-code (suc (suc (suc (suc (suc (suc (suc (suc n)))))))) = or_right (eqb (suc (suc (suc (suc (suc (suc (suc (suc n)))))))) 2) _ (over n)

goal-code : (t : ℕ) → goal_code t ≡ is_one_of goal_tags (tag_of t)
unfolding tag_of
goal-code zero = refl
goal-code (suc zero) = refl
goal-code (suc (suc zero)) = refl
goal-code (suc (suc (suc zero))) = refl
goal-code (suc (suc (suc (suc zero)))) = refl
goal-code (suc (suc (suc (suc (suc zero))))) = refl
goal-code (suc (suc (suc (suc (suc (suc zero)))))) = refl
goal-code (suc (suc (suc (suc (suc (suc (suc zero))))))) = refl
goal-code (suc (suc (suc (suc (suc (suc (suc (suc n)))))))) = or_right (ltb (suc (suc (suc (suc (suc (suc (suc (suc n)))))))) 3) _ (over n)

-- a tag's number is the number in the row, as far as numbers below 8 can tell
tag-test : (t k : ℕ) → k < 8 → eqb t k ≡ eqb (tag_code (tag_of t)) k
unfolding tag_of
tag-test zero k h = refl
tag-test (suc zero) k h = refl
tag-test (suc (suc zero)) k h = refl
tag-test (suc (suc (suc zero))) k h = refl
tag-test (suc (suc (suc (suc zero)))) k h = refl
tag-test (suc (suc (suc (suc (suc zero))))) k h = refl
tag-test (suc (suc (suc (suc (suc (suc zero)))))) k h = refl
tag-test (suc (suc (suc (suc (suc (suc (suc zero))))))) k h = refl
tag-test (suc (suc (suc (suc (suc (suc (suc (suc n)))))))) k h = off n k h ∙ sym (off 0 k h)

only-tag : (t k : ℕ) → k < 8 → eqb t k ≡ (eqb (tag_code (tag_of t)) k || false)
only-tag t k h = tag-test t k h ∙ sym (or-false (eqb (tag_code (tag_of t)) k))

pub makes-code : (up t : ℕ) → makes_code up t ≡ makes_tag (tag_of up) (tag_of t)
unfolding tag_of
makes-code zero t = ap₂ (λ a b. a || b) (tag-test t 1 (omega arith)) (literal-code t)
makes-code (suc zero) t = or_comm (literal_code t) (eqb t 0) ∙ ap₂ (λ a b. a || b) (tag-test t 0 (omega arith)) (literal-code t)
makes-code (suc (suc zero)) t = ap₂ (λ a b. a || b) (tag-test t 3 (omega arith)) (goal-code t)
makes-code (suc (suc (suc zero))) t = only-tag t 4 (omega arith)
makes-code (suc (suc (suc (suc zero)))) t = only-tag t 5 (omega arith)
makes-code (suc (suc (suc (suc (suc zero))))) t = ap₂ (λ a b. a || b) (tag-test t 6 (omega arith)) (only-tag t 7 (omega arith))
makes-code (suc (suc (suc (suc (suc (suc zero)))))) t = refl
makes-code (suc (suc (suc (suc (suc (suc (suc zero))))))) t = goal-code t
makes-code (suc (suc (suc (suc (suc (suc (suc (suc n)))))))) t =
    rw (off n 0 (omega arith), off n 1 (omega arith), off n 2 (omega arith), off n 3 (omega arith), off n 4 (omega arith), off n 5 (omega arith), off n 7 (omega arith))

pub makes-none : (up t : ℕ) → (up ≡ 0 → ⊥) → (up ≡ 1 → ⊥) → (up ≡ 2 → ⊥) → (up ≡ 3 → ⊥) → (up ≡ 4 → ⊥) → (up ≡ 5 → ⊥) → (up ≡ 7 → ⊥) → false ≡ makes_tag (tag_of up) (tag_of t)
makes-none up t a b c d e f g = rw (← makes-code up t, ne_eqb up 0 a, ne_eqb up 1 b, ne_eqb up 2 c, ne_eqb up 3 d, ne_eqb up 4 e, ne_eqb up 5 f, ne_eqb up 7 g)

pub or-implies : (a b : Bool) → (not a || b) ≡ implies a b
or-implies true b = refl
or-implies false b = refl

-- ---- notes

-- four notes, each where it counts
abbrev pub four_code : ℕ → ℕ → ℕ → ℕ → ℕ → ℕ → Bool
four_code n k a b c d = implies (ltb 0 k) (ltb a n) && (implies (ltb 1 k) (ltb b n) && (implies (ltb 2 k) (ltb c n) && implies (ltb 3 k) (ltb d n)))

four-code : (n k a b c d : ℕ) → (leb k 4 && four_code n k a b c d) ≡ (leb k 4 && all_below n (take k (a ∷ b ∷ c ∷ d ∷ [])))
unfolding all_below
four-code n zero a b c d = refl
four-code n (suc zero) a b c d = refl
four-code n (suc (suc zero)) a b c d = refl
four-code n (suc (suc (suc zero))) a b c d = refl
four-code n (suc (suc (suc (suc zero)))) a b c d = rw and-true
four-code n (suc (suc (suc (suc (suc k))))) a b c d = rw (lt-leb (suc (suc (suc (suc (suc k))))) 4 (omega arith))

four : (ns : List ℕ) → length ns ≡ 4 → ns ≡ get_or ns 0 0 ∷ get_or ns 1 0 ∷ get_or ns 2 0 ∷ get_or ns 3 0 ∷ []
four [] h = absurd (omega arith)
four (a ∷ []) h = absurd (omega arith)
four (a ∷ b ∷ []) h = absurd (omega arith)
four (a ∷ b ∷ c ∷ []) h = absurd (omega arith)
four (a ∷ b ∷ c ∷ d ∷ []) h = refl
four (a ∷ b ∷ c ∷ d ∷ e ∷ ns) h = absurd (omega arith)

pub notes-code : (n k : ℕ) (ns : List ℕ) → length ns ≡ 4 → (leb k 4 && four_code n k (get_or ns 0 0) (get_or ns 1 0) (get_or ns 2 0) (get_or ns 3 0)) ≡ (leb k 4 && all_below n (take k ns))
notes-code n k ns h = four-code n k (get_or ns 0 0) (get_or ns 1 0) (get_or ns 2 0) (get_or ns 3 0) ∙ ap (λ (l : List ℕ). leb k 4 && all_below n (take k l)) (sym (four ns h))

-- ---- a variable

-- the row of variable v, in numbers
abbrev pub cell_code : ℕ → ℕ → ℕ → Bool
cell_code v sort k = cond (eqb sort 0) (eqb k 0) (cond (eqb sort 1) (leb k 32767) (eqb sort 2 && ltb k v))

pub cell-code : (v sort k : ℕ) → cell_code v sort k ≡ ((ltb sort 3 && implies (eqb sort 0) (eqb k 0)) && binding_ok v (binding_by sort k))
unfolding binding_by
cell-code v zero k = sym (and-true (eqb k 0))
cell-code v (suc zero) k = refl
cell-code v (suc (suc zero)) k = refl
cell-code v (suc (suc (suc n))) k =
    rw (le-ltb (suc (suc (suc n))) 3 (omega arith), ne_eqb (suc (suc (suc n))) 0 (λ e. omega arith), ne_eqb (suc (suc (suc n))) 1 (λ e. omega arith), ne_eqb (suc (suc (suc n))) 2 (λ e. omega arith))

pub cell-none : (v sort k : ℕ) → (sort ≡ 0 → ⊥) → (sort ≡ 1 → ⊥) → (sort ≡ 2 → ⊥) → false ≡ ((ltb sort 3 && implies (eqb sort 0) (eqb k 0)) && binding_ok v (binding_by sort k))
cell-none v sort k a b c = rw (← cell-code v sort k, ne_eqb sort 0 a, ne_eqb sort 1 b, ne_eqb sort 2 c)
