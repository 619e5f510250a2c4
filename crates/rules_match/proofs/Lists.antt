-- Lists in four places, and the lists of a match cut to the shortest.
use Rattle.std.specs.Prelude.{Option}
use mathlib.Core.Path.{◌∙◌, ◌≡◌, ap, refl}
use mathlib.Core.List.{[], ◌∷◌, List}
use Prim.Native.Nat.{◌≤◌, min, suc, zero, ℕ}
use lib.Dec.{ltb}
use lib.ListN.{length, take}
use borrow.Author.Tests.{ltb-false, ltb-true}
use native.Mathlib.Omega.{arith}
use Rattle.decide.proofs.Laws.{decide-cong}
use Rattle.parlog.proofs.Bools.{split}
use Rattle.parlog.specs.Image.{is_input}
use Rattle.parlog.specs.Program.{out_count}
use Rattle.parlog.specs.Unify.{input_value, match_of, out_after, pair_of, pairs_of}
use Rattle.parlog.specs.declared.Pair.{Pair}
use Rattle.parlog.specs.declared.Term.{Term}
use Rattle.rules_match.specs.Starts.{in_four}

-- ---- four places

-- what a list has in front, its four places have
pub four-take : {A : Type 0} (d : A) (k : ℕ) (xs : List A) → k ≤ 4 → k ≤ length xs → take k (in_four d xs) ≡ take k xs
four-take d zero xs h g = refl
four-take d (suc zero) [] h g = absurd (omega arith)
four-take d (suc zero) (a ∷ xs) h g = refl
four-take d (suc (suc zero)) [] h g = absurd (omega arith)
four-take d (suc (suc zero)) (a ∷ []) h g = absurd (omega arith)
four-take d (suc (suc zero)) (a ∷ b ∷ xs) h g = refl
four-take d (suc (suc (suc zero))) [] h g = absurd (omega arith)
four-take d (suc (suc (suc zero))) (a ∷ []) h g = absurd (omega arith)
four-take d (suc (suc (suc zero))) (a ∷ b ∷ []) h g = absurd (omega arith)
four-take d (suc (suc (suc zero))) (a ∷ b ∷ c ∷ xs) h g = refl
four-take d (suc (suc (suc (suc zero)))) [] h g = absurd (omega arith)
four-take d (suc (suc (suc (suc zero)))) (a ∷ []) h g = absurd (omega arith)
four-take d (suc (suc (suc (suc zero)))) (a ∷ b ∷ []) h g = absurd (omega arith)
four-take d (suc (suc (suc (suc zero)))) (a ∷ b ∷ c ∷ []) h g = absurd (omega arith)
four-take d (suc (suc (suc (suc zero)))) (a ∷ b ∷ c ∷ e ∷ xs) h g = refl
four-take d (suc (suc (suc (suc (suc k))))) xs h g = absurd (omega arith)

-- ---- cut to the shortest

-- the length of the shorter list
shorter : {A B : Type 0} → List A → List B → ℕ
shorter [] ys = 0
shorter (x ∷ xs) [] = 0
shorter (x ∷ xs) (y ∷ ys) = suc (shorter xs ys)

shorter-left : {A B : Type 0} (xs : List A) (ys : List B) → length xs ≤ length ys → shorter xs ys ≡ length xs
unfolding shorter
shorter-left [] ys h = refl
shorter-left (x ∷ xs) [] h = absurd (omega arith)
shorter-left (x ∷ xs) (y ∷ ys) h = ap (λ (k : ℕ). suc k) (shorter-left xs ys (omega arith))

shorter-right : {A B : Type 0} (xs : List A) (ys : List B) → length ys ≤ length xs → shorter xs ys ≡ length ys
unfolding shorter
shorter-right [] [] h = refl
shorter-right [] (y ∷ ys) h = absurd (omega arith)
shorter-right (x ∷ xs) [] h = refl
shorter-right (x ∷ xs) (y ∷ ys) h = ap (λ (k : ℕ). suc k) (shorter-right xs ys (omega arith))

least-shorter : {A B : Type 0} (xs : List A) (ys : List B) → min (length xs) (length ys) ≡ shorter xs ys
least-shorter xs ys = split (ltb (length xs) (length ys))
    (λ e. let h = ltb-true (length xs) (length ys) e in rw (shorter-left xs ys (omega arith)) (omega arith))
    (λ e. let h = ltb-false (length xs) (length ys) e in rw (shorter-right xs ys h) (omega arith))

pub outs-take : (k : ℕ) (ms : List ℕ) → out_count (take k ms) ≤ out_count ms
unfolding out_count
outs-take zero ms = omega arith
outs-take (suc k) [] = omega arith
outs-take (suc k) (m ∷ ms) = split (is_input m) (λ e. rw e (outs-take k ms)) (λ e. rw e (omega (arith, outs-take k ms)))

pairs-cut : (ms : List ℕ) (xs : List Term) (b : ℕ) (ts : List Term) (first out : ℕ) → length ms ≤ length ts
    → pairs_of (take (shorter ms xs) ms) (take (shorter ms xs) xs) b (take (shorter ms xs) ts) first out ≡ pairs_of ms xs b ts first out
unfolding pairs_of shorter
pairs-cut [] xs b ts first out h = refl
pairs-cut (m ∷ ms) [] b ts first out h = refl
pairs-cut (m ∷ ms) (x ∷ xs) b [] first out h = absurd (omega arith)
pairs-cut (m ∷ ms) (x ∷ xs) b (t ∷ ts) first out h = ap (λ (es : List Pair). pair_of m x b t first out ∷ es) (pairs-cut ms xs b ts first (out_after m out) (omega arith))

input-cut : (vs : List (Option Term)) (ms : List ℕ) (xs : List Term) (b v : ℕ) → input_value vs (take (shorter ms xs) ms) (take (shorter ms xs) xs) b v ≡ input_value vs ms xs b v
unfolding input_value shorter
input-cut vs [] xs b v = refl
input-cut vs (m ∷ ms) [] b v = refl
input-cut vs (m ∷ ms) (x ∷ xs) b v = rw (input-cut vs ms xs b v)

-- a match with its lists cut so is the whole match
pub match-cut : (vs : List (Option Term)) (ms : List ℕ) (xs : List Term) (b : ℕ) (ts : List Term) (first own : ℕ) → length ms ≤ length ts → {k : ℕ} → k ≡ min (length ms) (length xs)
    → match_of vs (take k ms) (take k xs) b (take k ts) first own ≡ match_of vs ms xs b ts first own
unfolding match_of
match-cut vs ms xs b ts first own h {k} e =
    let q : k ≡ shorter ms xs = e ∙ least-shorter ms xs in
    rw (q, pairs-cut ms xs b ts first own h) (decide-cong vs (pairs_of ms xs b ts first own) _ (input_value vs ms xs b) (input-cut vs ms xs b))
