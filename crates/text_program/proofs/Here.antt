-- Bytes read where they were written.
use mathlib.Core.Path.{◌∙◌, ◌≡◌, ap, refl, sym}
use mathlib.Core.Bool.{Bool}
use mathlib.Core.List.{[], ◌++◌, ◌∷◌, append_assoc, List}
use Prim.Native.Nat.{◌%◌, ◌+◌, ◌/◌, ℕ}
use lib.ListN.{drop, get_or, length, length-append}
use lib.Seq.{drop-append_seam, drop-drop, get_or-drop}
use native.Mathlib.Omega.{arith}
use Rattle.parlog.specs.Image.{byte_at, word_at}
use Rattle.parlog.specs.Scan.{along, each, total}
use Rattle.text_program.specs.Encoded.{word_bytes}
use Rattle.text_program.specs.Numbered.{joined}
use Rattle.text_program.specs.Parsing.{all_of}

module _ (s : List ℕ) where
  pub byte-here : (q b : ℕ) (r : List ℕ) → drop q s ≡ b ∷ r → byte_at s q ≡ b
  byte-here q b r e = let z : q + 0 ≡ q = omega arith in sym (rw z at (get_or-drop q s 0 0)) ∙ ap (λ (l : List ℕ). get_or l 0 0) e

  pub skip_by : (q : ℕ) (xs r : List ℕ) → drop q s ≡ xs ++ r → drop (q + length xs) s ≡ r
  skip_by q xs r e = sym (drop-drop (length xs) q s) ∙ ap (λ (l : List ℕ). drop (length xs) l) e ∙ drop-append_seam xs r

  pub byte_next : (q b : ℕ) (r : List ℕ) → drop q s ≡ b ∷ r → drop (q + 1) s ≡ r
  byte_next q b r e = skip_by q (b ∷ []) r e

  pub word-here : (q w : ℕ) (r : List ℕ) → drop q s ≡ word_bytes w ++ r → word_at s q ≡ w
  word-here q w r e =
      let a = byte-here q (w % 256) (w / 256 ∷ r) e in
      let b = byte-here (q + 1) (w / 256) r (byte_next q (w % 256) (w / 256 ∷ r) e) in
      rw (a, b) (omega arith)

  module _ {A : Type 0} (bytes : A → List ℕ) (next : ℕ → ℕ) (step : (x : A) (q : ℕ) (r : List ℕ) → drop q s ≡ bytes x ++ r → next q ≡ q + length (bytes x)) where
    pub items-split : (x : A) (xs : List A) (q : ℕ) (r : List ℕ) → drop q s ≡ joined bytes (x ∷ xs) ++ r → drop q s ≡ bytes x ++ (joined bytes xs ++ r)
    unfolding joined
    items-split x xs q r e = e ∙ append_assoc (bytes x) (joined bytes xs) r

    pub items-behind : (x : A) (xs : List A) (q : ℕ) (r : List ℕ) → drop q s ≡ joined bytes (x ∷ xs) ++ r → drop (next q) s ≡ joined bytes xs ++ r
    items-behind x xs q r e = let d = items-split x xs q r e in rw (step x q (joined bytes xs ++ r) d) (skip_by q (bytes x) (joined bytes xs ++ r) d)

    pub items-end : (xs : List A) (q : ℕ) (r : List ℕ) → drop q s ≡ joined bytes xs ++ r → along next (length xs) q ≡ q + length (joined bytes xs)
    unfolding along joined
    items-end [] q r e = omega arith
    items-end (x ∷ xs) q r e =
        let d = step x q (joined bytes xs ++ r) (items-split x xs q r e) in
        let l = length-append (bytes x) (joined bytes xs) in
        items-end xs (next q) r (items-behind x xs q r e) ∙ rw d (omega arith)

    pub items-each : (f : ℕ → Bool) (ok : A → Bool) → ((x : A) (q : ℕ) (r : List ℕ) → drop q s ≡ bytes x ++ r → f q ≡ ok x) →
        (xs : List A) (q : ℕ) (r : List ℕ) → drop q s ≡ joined bytes xs ++ r → each f next (length xs) q ≡ all_of ok xs
    unfolding each all_of
    items-each f ok h [] q r e = refl
    items-each f ok h (x ∷ xs) q r e = rw (h x q (joined bytes xs ++ r) (items-split x xs q r e), items-each f ok h xs (next q) r (items-behind x xs q r e))

    pub items-total : (f : ℕ → ℕ) (count : A → ℕ) (sum : List A → ℕ) → sum [] ≡ 0 → ((x : A) (xs : List A) → sum (x ∷ xs) ≡ count x + sum xs) → ((x : A) (q : ℕ) (r : List ℕ) → drop q s ≡ bytes x ++ r → f q ≡ count x) →
        (xs : List A) (q : ℕ) (r : List ℕ) → drop q s ≡ joined bytes xs ++ r → total f next (length xs) q ≡ sum xs
    unfolding total
    items-total f count sum empty more h [] q r e = sym empty
    items-total f count sum empty more h (x ∷ xs) q r e = rw (more x xs, h x q (joined bytes xs ++ r) (items-split x xs q r e), items-total f count sum empty more h xs (next q) r (items-behind x xs q r e))
