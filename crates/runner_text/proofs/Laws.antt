-- Text written from the back: one byte more, a word, the digits of a number, and one piece after another.
use mathlib.Core.Path.{◌∙◌, ◌≡◌, ap, refl, sym}
use mathlib.Core.Bool.{Bool, false, true}
use mathlib.Core.List.{[], ◌++◌, ◌∷◌, append_assoc, List}
use Prim.Native.Nat.{◌%◌, ◌+◌, ◌-◌, ◌/◌, ◌<◌, ◌≤◌, ◌^◌, suc, zero, ℕ}
use lib.Dec.{leb}
use lib.ListN.{drop, length, length-append, length-set, set, take}
use lib.Seq.{take-set-le}
use borrow.Author.Tests.{le-ltb, leb-false, leb-true, lt-ltb}
use native.Mathlib.Omega.{arith}
use Rattle.parlog.specs.Text.{decimal, digits}
use Rattle.runner_text.specs.Fronting.{Fronted}
use Rattle.runner_text.specs.Writing.{Fronts, standing}
use Rattle.runner_text.specs.declared.Text.{Text}
use Rattle.std.proofs.lemmas.Fmt.{decimal_digit, decimal_nonempty, decimal_step, length-decimal-le}
use Rattle.std.specs.Fmt.{decimal as printed}

-- ---- bytes in front

fewer : (q r : ℕ) (a b : List ℕ) → q ≤ r → take r a ≡ take r b → take q a ≡ take q b
fewer zero r a b h e = refl
fewer (suc q) zero a b h e = absurd (omega arith)
fewer (suc q) (suc r) [] [] h e = refl
fewer (suc q) (suc r) [] (y ∷ b) h e = let w : ◌≡◌ {A = ℕ} 0 1 = cc in absurd (omega arith)
fewer (suc q) (suc r) (x ∷ a) [] h e = let w : ◌≡◌ {A = ℕ} 0 1 = cc in absurd (omega arith)
fewer (suc q) (suc r) (x ∷ a) (y ∷ b) h e =
    let i : x ≡ y = cc in
    let j : take r a ≡ take r b = cc in
    let k = fewer q r a b (omega arith) j in
    cc

-- a piece more leaves what the one before has left
pub still : (o o' o'' : List ℕ) (r q : ℕ) → q ≤ r → take r o' ≡ take r o → take q o'' ≡ take q o' → take q o'' ≡ take q o
still o o' o'' r q h e f = f ∙ fewer q r o' o h e

-- ---- one byte

-- a store at the front of the text
drop-set : (o : List ℕ) (i b : ℕ) → i < length o → drop i (set o i b) ≡ b ∷ drop (suc i) o
drop-set [] i b h = absurd (omega arith)
drop-set (x ∷ xs) zero b h = refl
drop-set (x ∷ xs) (suc i) b h = drop-set xs i b (omega arith)

pub put_one : (o : List ℕ) (p b : ℕ) → 1 ≤ p → p ≤ length o → Fronted o p 1 (b ∷ drop p o) (set o (p - 1) b) (p - 1)
put_one o p b g h =
    let e : suc (p - 1) ≡ p = omega arith in
    record { size = length-set o (p - 1) b; text = drop-set o (p - 1) b (omega arith) ∙ ap (λ (i : ℕ). b ∷ drop i o) e; front = take-set-le (p - 1) o (p - 1) b (omega arith); lower = omega arith; near = omega arith }

-- ---- pieces

-- one piece in front of another
pub then : {o o' o'' : List ℕ} {p r q a b : ℕ} {t : List ℕ} (g : List ℕ → List ℕ) → Fronted o p a t o' r → Fronted o' r b (g (drop r o')) o'' q → Fronted o p (a + b) (g t) o'' q
then {o} {o'} {o''} {r = r} {q = q} g x y =
    let u = x.lower in
    let v = x.near in
    let w = y.lower in
    let z = y.near in
    record { size = y.size ∙ x.size; text = y.text ∙ ap g x.text; front = still o o' o'' r q w x.front y.front; lower = omega arith; near = omega arith }

-- room that is not used, and the text in another form
pub as-text : {o o' : List ℕ} {p r a b : ℕ} {t u : List ℕ} → Fronted o p a t o' r → t ≡ u → a ≤ b → Fronted o p b u o' r
as-text x e h =
    let v = x.near in
    record { size = x.size; text = x.text ∙ e; front = x.front; lower = x.lower; near = omega arith }

-- ---- a number

-- with room for all digits, those in front of a text are the number's as it is printed
digits-are : (f n : ℕ) (rest : List ℕ) → n < 2 ^ 64 → length (printed n) ≤ f → digits f n rest ≡ printed n ++ rest
unfolding digits
digits-are zero n rest h l = absurd (omega (arith, decimal_nonempty n h, l))
digits-are (suc f) n rest h l = go (leb 10 n) refl (λ m. digits-are f (n / 10) ((48 + n % 10) ∷ rest) (omega arith) m)
  where
    go : (b : Bool) → leb 10 n ≡ b → (length (printed (n / 10)) ≤ f → digits f (n / 10) ((48 + n % 10) ∷ rest) ≡ printed (n / 10) ++ ((48 + n % 10) ∷ rest)) → digits (suc f) n rest ≡ printed n ++ rest
    go false e next = let k : n < 10 = leb-false 10 n e in rw (lt-ltb n 10 k, decimal_digit n k)
    go true e next =
        let k : 10 ≤ n = leb-true 10 n e in
        let s = decimal_step n k h in
        let m = ap length s ∙ length-append (printed (n / 10)) ((48 + n % 10) ∷ []) in
        rw (le-ltb n 10 k)
        (next (omega (arith, m, l)) ∙ sym (append_assoc (printed (n / 10)) ((48 + n % 10) ∷ []) rest) ∙ ap (λ (xs : List ℕ). xs ++ rest) (sym s))

pub number_is : (o : List ℕ) (p n : ℕ) {o' : List ℕ} {r : ℕ} → n < 2 ^ 64 → length o' ≡ length o → r + length (printed n) ≡ p → drop r o' ≡ printed n ++ drop p o → take r o' ≡ take r o → Fronted o p 20 (decimal n (drop p o)) o' r
unfolding decimal
number_is o p n h size start text front =
    let l = length-decimal-le 20 n (omega arith) (omega arith) h in
    record { size = size; text = text ∙ sym (digits-are 20 n (drop p o) h l); front = front; lower = omega arith; near = omega arith }

-- ---- writers

-- one piece in front of another
pub both : {w x y : Text} {a b : ℕ} {t : List ℕ} (g : List ℕ → List ℕ) → Fronts w a t x → Fronts x b (g (standing x)) y → Fronts w (a + b) (g t) y
both g f h = record { lent = h.lent ∙ f.lent; fronted = then g f.fronted h.fronted }

-- room that is not used, and the text in another form
pub told-as : {w x : Text} {a b : ℕ} {t u : List ℕ} → Fronts w a t x → t ≡ u → a ≤ b → Fronts w b u x
told-as f e h = record { lent = f.lent; fronted = as-text f.fronted e h }
