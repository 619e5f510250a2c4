-- What was said stands in two halves: computed for every content of them and every answer of a child.
use mathlib.Core.Path.{◌≡◌, refl}
use mathlib.Core.Bool.{Bool, true}
use Prim.Native.Nat.{◌<◌, ℕ}
use lib.Bits.{bit_or}
use lib.Dec.{eqb, ltb}
use borrow.Author.Tests.{eqb-true, ltb-true}
use Rattle.children.proofs.Small.{answered, answers, says}
use Rattle.children.specs.Notes.{hear, silent_bit}
use Rattle.parlog.proofs.Scans.{every-at}
use Rattle.parlog.specs.Scan.{every}

-- a test computed for each content of the halves
tested : (t : ℕ → ℕ → Bool → Bool → Bool) → every (λ i. every (λ j. answers (t i j)) 16) 2 ≡ true → (i j : ℕ) → i < 2 → j < 16 → (a b : Bool) → t i j a b ≡ true
tested t e i j h k a b = answered (t i j) a b (every-at (λ j. answers (t i j)) 16 j (every-at (λ i. every (λ j. answers (t i j)) 16) 2 i e h) k)

module _ (i j : ℕ) (h : i < 2) (k : j < 16) where
  -- one that has nothing to tell
  pub half-silent : bit_or silent_bit j ≡ hear (bit_or i j) silent_bit
  unfolding every hear
  half-silent = eqb-true (bit_or silent_bit j) (hear (bit_or i j) silent_bit) (tested (λ i j a b. eqb (bit_or silent_bit j) (hear (bit_or i j) silent_bit)) refl i j h k true true)

  module _ (a b : Bool) where
    -- one that tells: the other half may keep all
    pub half-told : bit_or i (hear (bit_or i j) (says a b)) ≡ hear (bit_or i j) (says a b)
    unfolding every hear
    half-told = eqb-true (bit_or i (hear (bit_or i j) (says a b))) (hear (bit_or i j) (says a b))
        (tested (λ i j a b. eqb (bit_or i (hear (bit_or i j) (says a b))) (hear (bit_or i j) (says a b))) refl i j h k a b)

    pub half-small : hear (bit_or i j) (says a b) < 16
    unfolding every hear
    half-small = ltb-true (hear (bit_or i j) (says a b)) 16 (tested (λ i j a b. ltb (hear (bit_or i j) (says a b)) 16) refl i j h k a b)
