-- What was said after a child more: computed for every note below 16 and every answer of the tests.
use mathlib.Core.Path.{◌≡◌, refl, sym}
use mathlib.Core.Bool.{◌&&◌, ◌||◌, Bool, cond, false, not, true}
use Prim.Native.Nat.{◌<◌, ℕ}
use lib.Dec.{eqb, ltb}
use borrow.Author.Tests.{ltb-true}
use Rattle.children.specs.Notes.{bad_note, good_note, hear, latest_in, none_silent, silent_bit, some_bad, some_good}
use Rattle.std.proofs.lemmas.Bool.{and_parts}
use Rattle.parlog.proofs.Bools.{implies_true}
use Rattle.parlog.proofs.Scans.{every-at}
use Rattle.parlog.specs.Scan.{every, implies}

-- ---- tests over all answers

-- a test of every pair of answers
abbrev pub answers : (Bool → Bool → Bool) → Bool
answers t = (t true true && t true false) && (t false true && t false false)

pub answered : (t : Bool → Bool → Bool) (a b : Bool) → answers t ≡ true → t a b ≡ true
answered t true true e = (and_parts (t true true) (t true false) (and_parts (t true true && t true false) (t false true && t false false) e).0).0
answered t true false e = (and_parts (t true true) (t true false) (and_parts (t true true && t true false) (t false true && t false false) e).0).1
answered t false true e = (and_parts (t false true) (t false false) (and_parts (t true true && t true false) (t false true && t false false) e).1).0
answered t false false e = (and_parts (t false true) (t false false) (and_parts (t true true && t true false) (t false true && t false false) e).1).1

-- two tests have the same answer
abbrev pub agree : Bool → Bool → Bool
agree true b = b
agree false b = not b

pub agree-is : (a b : Bool) → agree a b ≡ true → a ≡ b
agree-is true b e = sym e
agree-is false true e = e
agree-is false false e = refl

-- a test computed for each note, where no child reports both
tested : (t : ℕ → Bool → Bool → Bool) (s : ℕ) → every (λ s. answers (λ a b. implies (not (a && b)) (t s a b))) 16 ≡ true → s < 16
    → (a b : Bool) → not (a && b) ≡ true → t s a b ≡ true
tested t s e h a b o =
    implies_true (not (a && b)) (t s a b)
    (answered (λ a b. implies (not (a && b)) (t s a b)) a b (every-at (λ s. answers (λ a b. implies (not (a && b)) (t s a b))) 16 s e h)) o

-- ---- after a child that reports success (a), failure (b) or nothing

abbrev pub says : Bool → Bool → ℕ
says a b = cond a good_note (cond b bad_note silent_bit)

pub says-good : (a b : Bool) → eqb (says a b) good_note ≡ a
says-good true b = refl
says-good false true = refl
says-good false false = refl

pub says-told : (a b : Bool) → not (eqb (says a b) silent_bit) ≡ (a || b)
says-told true b = refl
says-told false true = refl
says-told false false = refl

module _ (a b : Bool) (s : ℕ) (h : s < 16) (o : not (a && b) ≡ true) where
  pub hear-small : hear s (says a b) < 16
  unfolding every hear
  hear-small = ltb-true (hear s (says a b)) 16 (tested (λ s a b. ltb (hear s (says a b)) 16) s refl h a b o)

  pub hear-some : eqb (hear s (says a b)) 0 ≡ false
  unfolding every hear
  hear-some = agree-is (eqb (hear s (says a b)) 0) false (tested (λ s a b. agree (eqb (hear s (says a b)) 0) false) s refl h a b o)

  pub hear-bad : some_bad (hear s (says a b)) ≡ (some_bad s || b)
  unfolding every hear
  hear-bad = agree-is (some_bad (hear s (says a b))) (some_bad s || b) (tested (λ s a b. agree (some_bad (hear s (says a b))) (some_bad s || b)) s refl h a b o)

  pub hear-good : some_good (hear s (says a b)) ≡ (some_good s || a)
  unfolding every hear
  hear-good = agree-is (some_good (hear s (says a b))) (some_good s || a) (tested (λ s a b. agree (some_good (hear s (says a b))) (some_good s || a)) s refl h a b o)

  pub hear-done : (not (some_bad (hear s (says a b))) && none_silent (hear s (says a b))) ≡ ((not (some_bad s) && none_silent s) && a)
  unfolding every hear
  hear-done = agree-is (not (some_bad (hear s (says a b))) && none_silent (hear s (says a b))) ((not (some_bad s) && none_silent s) && a)
      (tested (λ s a b. agree (not (some_bad (hear s (says a b))) && none_silent (hear s (says a b))) ((not (some_bad s) && none_silent s) && a)) s refl h a b o)

  pub hear-lost : (not (some_good (hear s (says a b))) && none_silent (hear s (says a b))) ≡ ((not (some_good s) && none_silent s) && b)
  unfolding every hear
  hear-lost = agree-is (not (some_good (hear s (says a b))) && none_silent (hear s (says a b))) ((not (some_good s) && none_silent s) && b)
      (tested (λ s a b. agree (not (some_good (hear s (says a b))) && none_silent (hear s (says a b))) ((not (some_good s) && none_silent s) && b)) s refl h a b o)

  pub hear-late : latest_in (hear s (says a b)) ≡ cond (eqb s 0) (a || b) (latest_in s)
  unfolding every hear
  hear-late = agree-is (latest_in (hear s (says a b))) (cond (eqb s 0) (a || b) (latest_in s))
      (tested (λ s a b. agree (latest_in (hear s (says a b))) (cond (eqb s 0) (a || b) (latest_in s))) s refl h a b o)
