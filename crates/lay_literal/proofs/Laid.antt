-- What is left to lay of a row, and the ways through the writers.
use mathlib.Core.Path.{◌∙◌, ◌≡◌, ap, refl, sym}
use mathlib.Core.Bool.{Bool, true}
use mathlib.Core.List.{[], ◌++◌, ◌∷◌, List, map}
use Prim.Native.Nat.{◌%◌, ◌/◌, ◌≤◌, ℕ}
use lib.ListN.{length}
use Rattle.lay_literal.specs.Lows.{lows}
use Rattle.lay_text.proofs.Laws.{left_as, left_end, left-start, left_step, writes-both}
use Rattle.lay_text.specs.Laying.{Left, most, Writes}
use Rattle.lay_text.specs.declared.To.{To}
use Rattle.text_program.specs.Encoded.{word_bytes}
use Rattle.text_program.specs.Numbered.{joined}
use Rattle.text_program.specs.Parsing.{all_of}
use Rattle.text_program.specs.Source.{cons_got, Got, got}

-- ---- low bytes

pub lows-append : (xs ys : List ℕ) → lows (xs ++ ys) ≡ lows xs ++ lows ys
unfolding lows
lows-append [] ys = refl
lows-append (x ∷ xs) ys = ap (λ (l : List ℕ). x % 256 ∷ l) (lows-append xs ys)

pub lows-cons : (x : ℕ) (xs : List ℕ) → lows (x ∷ xs) ≡ lows (x ∷ []) ++ lows xs
unfolding lows
lows-cons x xs = refl

pub lows-one : (o p : List ℕ) (w x : To) (n b : ℕ) → b ≡ n % 256 → Writes o w (b ∷ []) true p x → Writes o w (lows (n ∷ [])) true p x
unfolding lows
lows-one o p w x n b e v = rw (← e) v

pub lows-two : {o p q : List ℕ} {w x y : To} (n : ℕ) → Writes o w (lows (n % 256 ∷ [])) true p x → Writes p x (lows (n / 256 ∷ [])) true q y → Writes o w (lows (word_bytes n)) true q y
lows-two n a b = rw (lows-cons (n % 256) (n / 256 ∷ [])) (writes-both a b)

pub joined-map : {A B : Type 0} (f : B → List ℕ) (g : A → B) (xs : List A) → joined f (map g xs) ≡ joined (λ (x : A). f (g x)) xs
unfolding joined
joined-map f g [] = refl
joined-map f g (x ∷ xs) = ap (λ (l : List ℕ). f (g x) ++ l) (joined-map f g xs)

-- ---- rows

module _ {A : Type 0} (bytes : A → List ℕ) (ok : A → Bool) where
  -- the bytes of a row
  abbrev row_bytes : List A → List ℕ
  row_bytes xs = lows (joined bytes xs)

  module _ {o : List ℕ} {w : To} {bs : List ℕ} {g : Bool} {p : List ℕ} {x : To} where
    pub lay-on : {q : List ℕ} {y : To} (i : A) (Y Z : Got (List A)) → Y ≡ cons_got i Z → Left o w bs g p x (row_bytes Y.value) (all_of ok Y.value) → Writes p x (lows (bytes i)) (ok i) q y →
        Left o w bs g q y (row_bytes Z.value) (all_of ok Z.value)
    unfolding joined all_of
    lay-on i Y Z e l v =
        left_step (lows (bytes i)) (row_bytes Z.value) (ok i) (all_of ok Z.value)
        (left_as (ap (λ (k : Got (List A)). row_bytes k.value) e ∙ lows-append (bytes i) (joined bytes Z.value)) (ap (λ (k : Got (List A)). all_of ok k.value) e) l) v

    pub lay-last : {q : List ℕ} {y : To} (i : A) (r : List ℕ) (Y : Got (List A)) → Y ≡ got (i ∷ []) r → Left o w bs g p x (row_bytes Y.value) (all_of ok Y.value) → Writes p x (lows (bytes i)) (ok i) q y →
        Writes o w bs g q y
    unfolding joined all_of lows
    lay-last i r Y e l v =
        left_end (left_step (lows (bytes i)) [] (ok i) true
        (left_as (ap (λ (k : Got (List A)). row_bytes k.value) e ∙ lows-append (bytes i) []) (ap (λ (k : Got (List A)). all_of ok k.value) e) l) v)

    pub lay_done : (r : List ℕ) (Y : Got (List A)) → Y ≡ got [] r → Left o w bs g p x (row_bytes Y.value) (all_of ok Y.value) → Writes o w bs g p x
    unfolding joined all_of lows
    lay_done r Y e l = left_end (left_as (ap (λ (k : Got (List A)). row_bytes k.value) e) (ap (λ (k : Got (List A)). all_of ok k.value) e) l)

  -- a row begins
  pub lay-start : {o : List ℕ} {w : To} (Y W : Got (List A)) → Y ≡ W → length o ≤ most → w.at ≤ most → Left o w (row_bytes W.value) (all_of ok W.value) o w (row_bytes Y.value) (all_of ok Y.value)
  lay-start {o} {w} Y W e h g = left_as (ap (λ (k : Got (List A)). row_bytes k.value) (sym e)) (ap (λ (k : Got (List A)). all_of ok k.value) (sym e)) (left-start o w (row_bytes W.value) (all_of ok W.value) h g)

pub all_true : {A : Type 0} (xs : List A) → all_of (λ (x : A). true) xs ≡ true
unfolding all_of
all_true [] = refl
all_true (x ∷ xs) = all_true xs

-- the whole told otherwise
pub whole-as : {o : List ℕ} {w : To} {bs cs : List ℕ} {g h : Bool} {p : List ℕ} {x : To} {ds : List ℕ} {r : Bool} → bs ≡ cs → g ≡ h → Left o w bs g p x ds r → Left o w cs h p x ds r
whole-as e f l = rw (← e, ← f) l
