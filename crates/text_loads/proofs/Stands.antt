-- What stands from a place on.
use mathlib.Core.Path.{◌∙◌, ◌≡◌, ap, refl, sym}
use mathlib.Core.List.{[], ◌++◌, ◌∷◌, append_assoc, List}
use Prim.Native.Nat.{◌+◌, ◌<◌, ◌≤◌, suc, zero, ℕ}
use lib.ListN.{drop, get_or, length, length-append, length-drop}
use lib.Seq.{drop-cons, drop-drop, get_or-drop}
use native.Mathlib.Omega.{arith}
use native.Mathlib.Numerals.{add-one}
use Rattle.parlog.specs.Orders.{Each}
use Rattle.parlog.specs.Records.{byte_at}
use Rattle.parlog.specs.Scan.{along, list_of}
use Rattle.text_program.proofs.Here.{items-behind, items-split}
use Rattle.text_program.specs.Numbered.{joined}

module _ (s : List ℕ) where
  pub byte-in : (at k : ℕ) (t : List ℕ) → drop at s ≡ t → byte_at s (at + k) ≡ get_or t k 0
  byte-in at k t e = sym (get_or-drop at s k 0) ∙ ap (λ (x : List ℕ). get_or x k 0) e

  pub byte-first : (at : ℕ) (t : List ℕ) → drop at s ≡ t → byte_at s at ≡ get_or t 0 0
  byte-first at t e = let z : at + 0 ≡ at = omega arith in (rw z at (byte-in at 0 t e))

  -- k bytes further on
  pub further : (at k : ℕ) (t : List ℕ) → drop at s ≡ t → drop (at + k) s ≡ drop k t
  further at k t e = sym (drop-drop k at s) ∙ ap (drop k) e

  -- the next byte
  pub one_more : (at : ℕ) → at < length s → drop at s ≡ byte_at s at ∷ drop (at + 1) s
  one_more at h = rw add-one (drop-cons s at 0 h)

  pub two-more : (at : ℕ) → at + 2 ≤ length s → drop at s ≡ byte_at s at ∷ byte_at s (at + 1) ∷ drop (at + 2) s
  two-more at h = let e : at + 1 + 1 ≡ at + 2 = omega arith in one_more at (omega arith) ∙ ap (λ (x : List ℕ). byte_at s at ∷ x) (rw e at (one_more (at + 1) (omega arith)))

  -- how long what stands between two places is
  pub between : (a b : ℕ) (x : List ℕ) → a ≤ length s → b ≤ length s → drop a s ≡ x ++ drop b s → a + length x ≡ b
  between a b x h k e =
      let m = sym (length-drop a s) ∙ ap (λ (t : List ℕ). length t) e ∙ length-append x (drop b s) in
      let n = length-drop b s in
      omega arith

-- ---- rows of items: each is read where its bytes stand, and the next begins behind them

pub record Decodes {A : Type 0} (s : List ℕ) (bytes : A → List ℕ) (read : ℕ → A) (next : ℕ → ℕ) (Ok : A → Type 0) : Type 0 where
  pub item : (at : ℕ) (x : A) (rest : List ℕ) → Ok x → drop at s ≡ bytes x ++ rest → read at ≡ x
  pub end : (x : A) (at : ℕ) (rest : List ℕ) → drop at s ≡ bytes x ++ rest → next at ≡ at + length (bytes x)

module _ {A : Type 0} (s : List ℕ) (bytes : A → List ℕ) (read : ℕ → A) (next : ℕ → ℕ) (Ok : A → Type 0) (d : Decodes s bytes read next Ok) where
  pub row_is : (xs : List A) (at : ℕ) (rest : List ℕ) → Each Ok xs → drop at s ≡ joined bytes xs ++ rest → list_of read next (length xs) at ≡ xs
  unfolding joined list_of
  row_is [] at rest o e = refl
  row_is (x ∷ xs) at rest o e =
      rw (d.item at x (joined bytes xs ++ rest) o.0 (items-split s bytes next d.end x xs at rest e))
      (ap (λ (ys : List A). x ∷ ys) (row_is xs (next at) rest o.1 (items-behind s bytes next d.end x xs at rest e)))

-- ---- and the other way: what stands at a place is the bytes of what is read there

pub record Encodes {A : Type 0} (s : List ℕ) (bytes : A → List ℕ) (read : ℕ → A) (next : ℕ → ℕ) (P : ℕ → Type 0) : Type 0 where
  pub up : (at : ℕ) → at ≤ next at
  pub item : (at : ℕ) → P at → next at ≤ length s → drop at s ≡ bytes (read at) ++ drop (next at) s

pub along-up : (next : ℕ → ℕ) → ((at : ℕ) → at ≤ next at) → (n at : ℕ) → at ≤ along next n at
unfolding along
along-up next h zero at = omega arith
along-up next h (suc n) at = omega (arith, h at, along-up next h n (next at))

module _ {A : Type 0} (s : List ℕ) (bytes : A → List ℕ) (read : ℕ → A) (next : ℕ → ℕ) (P : ℕ → Type 0) (d : Encodes s bytes read next P) where
  pub row-bytes : (n at : ℕ) → ((i : ℕ) → i < n → P (along next i at)) → along next n at ≤ length s → drop at s ≡ joined bytes (list_of read next n at) ++ drop (along next n at) s
  unfolding joined list_of along
  row-bytes zero at p h = refl
  row-bytes (suc n) at p h =
      let u = along-up next d.up n (next at) in
      d.item at (p 0 (omega arith)) (omega arith)
      ∙ ap (λ (t : List ℕ). bytes (read at) ++ t) (row-bytes n (next at) (λ i l. p (suc i) (omega arith)) h)
      ∙ sym (append_assoc (bytes (read at)) (joined bytes (list_of read next n (next at))) (drop (along next n (next at)) s))
