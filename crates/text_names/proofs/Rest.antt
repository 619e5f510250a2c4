-- What is left of a text: its first byte, and how long it is.
use mathlib.Core.Path.{◌∙◌, ◌≡◌, ap, refl}
use mathlib.Core.Bool.{Bool, cond, false, true}
use mathlib.Core.List.{[], ◌++◌, ◌∷◌, List}
use Prim.Native.Nat.{◌+◌, ◌≤◌, suc, zero, ℕ}
use lib.ListN.{drop, get_or, length, length-append, length-drop}
use lib.Seq.{get_or-drop}
use native.Mathlib.Omega.{arith}
use Rattle.text_names.specs.Bytes.{back, first, front, is_blank, is_name, next, past, skip}
use Rattle.text_names.specs.Entries.{behind_entry, entry_from}

pub first-at : (s : List ℕ) (i : ℕ) → first (drop i s) ≡ get_or s i 0
first-at s i = get_or-drop i s 0 0 ∙ (let h : i + 0 ≡ i = omega arith in rw h)

pub front-back : (s : List ℕ) → front s ++ back s ≡ s
unfolding front back
front-back [] = refl
front-back (b ∷ s) = go (is_name b) (front-back s)
  where
    go : (t : Bool) → front s ++ back s ≡ s → cond t (b ∷ front s) [] ++ cond t (back s) (b ∷ s) ≡ b ∷ s
    go true e = ap (λ (l : List ℕ). b ∷ l) e
    go false e = refl

pub skip-less : (s : List ℕ) → length (skip s) ≤ length s
unfolding skip
skip-less [] = omega arith
skip-less (b ∷ s) = go (is_blank b) (skip-less s)
  where
    go : (h : Bool) → length (skip s) ≤ length s → length (cond h (skip s) (b ∷ s)) ≤ suc (length s)
    go true i = omega arith
    go false i = omega arith

pub past-less : (s : List ℕ) → length (front s) + length (past s) ≤ length s
past-less s = let e = ap length (front-back s) in omega (arith, length-append (front s) (back s), skip-less (back s))

pub next-less : (s : List ℕ) → length (next s) ≤ length s
next-less s = omega (arith, skip-less (drop 1 s), length-drop 1 s)

-- in a row of no bytes there is no entry
pub empty-entry : (k : ℕ) → entry_from [] k ≡ []
unfolding entry_from behind_entry
empty-entry zero = refl
empty-entry (suc k) = empty-entry k
