-- The lines of the runner's text from their pieces.
use mathlib.Core.Path.{◌∙◌, ◌≡◌, ap, refl, sym}
use mathlib.Core.Bool.{Bool, cond, false, true}
use mathlib.Core.List.{◌++◌, ◌∷◌, List}
use Prim.Native.Nat.{◌%◌, ◌+◌, ◌/◌, ◌≤◌, suc, zero, ℕ}
use lib.Dec.{ltb}
use lib.ListN.{drop, length}
use lib.Seq.{drop-length}
use native.Mathlib.Omega.{arith}
use Rattle.parlog.specs.Text.{at_word, decimal, digits, end-word, end_word, equals_word, newline, refused_word, refused_text, steps_word, term_text, var_word}
use Rattle.parlog.specs.declared.End.{End}
use Rattle.parlog.specs.declared.End.TheVariants.{Budget, Failure, Room, Success, Waiting}
use Rattle.parlog.specs.declared.Refusal.{Refusal}
use Rattle.parlog.specs.declared.Term.{Term}
use Rattle.parlog.specs.declared.Term.TheVariants.{Const, Var}
use Rattle.runner_text.proofs.Laws.{both, told-as}
use Rattle.runner_text.specs.Fronting.{line_text, ran_text}
use Rattle.runner_text.specs.Writing.{Fronts, standing}
use Rattle.runner_text.specs.declared.Text.{Text}

-- ---- what stands behind a number

cond-append : (t : Bool) {x y : List ℕ} (u v b : List ℕ) → x ≡ u ++ b → y ≡ v ++ b → cond t x y ≡ cond t u v ++ b
cond-append true u v b e f = e
cond-append false u v b e f = f

digits_append : (k n : ℕ) (a b : List ℕ) → digits k n (a ++ b) ≡ digits k n a ++ b
unfolding digits
digits_append zero n a b = refl
digits_append (suc k) n a b = cond-append (ltb n 10) ((48 + n) ∷ a) (digits k (n / 10) ((48 + n % 10) ∷ a)) b refl (digits_append k (n / 10) ((48 + n % 10) ∷ a) b)

decimal-append : (n : ℕ) (a b : List ℕ) → decimal n (a ++ b) ≡ decimal n a ++ b
unfolding decimal
decimal-append n a b = digits_append 20 n a b

-- ---- the end of a run

end-most : (e : End) → length (end_word e) ≤ 7
end-most Success = omega arith
end-most Failure = omega arith
end-most Waiting = omega arith
end-most Room = omega arith
end-most Budget = omega arith

end_line : (e : End) (rest : List ℕ) → newline ++ end-word ++ (end_word e ++ (10 ∷ rest)) ≡ newline ++ end-word ++ end_word e ++ newline ++ rest
end_line Success rest = refl
end_line Failure rest = refl
end_line Waiting rest = refl
end_line Room rest = refl
end_line Budget rest = refl

pub end_is : {w y : Text} {e : End} (x : End) → e ≡ x → Fronts w (length (end_word x)) (end_word x ++ standing w) y → Fronts w 7 (end_word e ++ standing w) y
end_is {w} x q f = told-as f (ap (λ (z : End). end_word z ++ standing w) (sym q)) (end-most x)

-- ---- a value

module _ {w x y : Text} {t : Term} (n : ℕ) (f : Fronts w 1 (10 ∷ standing w) x) (g : Fronts x 20 (decimal n (standing x)) y) where
  pub term-const : t ≡ Const n → Fronts w 22 (term_text t ++ standing w) y
  term-const e =
      told-as (both (decimal n) f g) (decimal-append n newline (standing w) ∙ ap (λ (z : Term). term_text z ++ standing w) (sym e)) (omega arith)

  pub term-var : {z : Text} → t ≡ Var n → Fronts y 1 (95 ∷ standing y) z → Fronts w 22 (term_text t ++ standing w) z
  term-var e h =
      told-as (both (λ (u : List ℕ). 95 ∷ u) (both (decimal n) f g) h)
      (ap (λ (u : List ℕ). 95 ∷ u) (decimal-append n newline (standing w)) ∙ ap (λ (z : Term). term_text z ++ standing w) (sym e))
      (omega arith)

-- ---- lines

pub line-is : {w a b c d : Text} (v : ℕ) (t : Term) → Fronts w 22 (term_text t ++ standing w) a → Fronts a 3 (equals_word ++ standing a) b
    → Fronts b 20 (decimal v (standing b)) c → Fronts c 4 (var_word ++ standing c) d → Fronts w 49 (line_text v t ++ standing w) d
unfolding line_text
line-is {w} v t f g h l =
    told-as (both (λ (y : List ℕ). var_word ++ y) (both (decimal v) (both (λ (y : List ℕ). equals_word ++ y) f g) h) l)
    (ap (λ (y : List ℕ). var_word ++ y) (decimal-append v (equals_word ++ term_text t) (standing w)))
    (omega arith)

pub ran-is : {w a b c d x : Text} (e : End) (n : ℕ) → Fronts w 1 (10 ∷ standing w) a → Fronts a 7 (end_word e ++ standing a) b
    → Fronts b 5 (newline ++ end-word ++ standing b) c → Fronts c 20 (decimal n (standing c)) d → Fronts d 6 (steps_word ++ standing d) x → Fronts w 39 (ran_text e n (standing w)) x
unfolding ran_text
ran-is {w} e n f g h l q =
    told-as (both (λ (y : List ℕ). steps_word ++ y) (both (decimal n) (both (λ (y : List ℕ). newline ++ end-word ++ y) (both (λ (y : List ℕ). end_word e ++ y) f g) h) l) q)
    (ap (λ (y : List ℕ). steps_word ++ decimal n y) (end_line e (standing w)))
    (omega arith)

pub refused-is : {w a b c d x : Text} (f : Refusal) → w.at ≡ length w.out.now → Fronts w 1 (10 ∷ standing w) a → Fronts a 20 (decimal f.offset (standing a)) b
    → Fronts b 4 (at_word ++ standing b) c → Fronts c 20 (decimal f.number (standing c)) d → Fronts d 8 (refused_word ++ standing d) x → Fronts w 53 (refused_text f) x
unfolding refused_text
refused-is {w} f e g h l q u =
    told-as (both (λ (y : List ℕ). refused_word ++ y) (both (decimal f.number) (both (λ (y : List ℕ). at_word ++ y) (both (decimal f.offset) g h) l) q) u)
    (ap (λ (y : List ℕ). refused_word ++ decimal f.number (at_word ++ decimal f.offset (10 ∷ y))) (ap (λ (i : ℕ). drop i w.out.now) e ∙ drop-length w.out.now))
    (omega arith)
