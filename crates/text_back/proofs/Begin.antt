-- A name in front of what does not go on with it.
use mathlib.Core.Path.{◌≡◌, ap, refl}
use mathlib.Core.Bool.{◌&&◌, ◌||◌, Bool, cond, false, true}
use mathlib.Core.List.{[], ◌++◌, ◌∷◌, List}
use Prim.Native.Nat.{◌+◌, ◌<◌, ◌≤◌, ℕ}
use lib.Dec.{leb}
use lib.ListN.{length}
use borrow.Author.Tests.{eqb-true, le-leb, leb-true, lt-leb, ne_eqb}
use native.Mathlib.Omega.{arith}
use Rattle.parlog.proofs.Bools.{and-true, not_so, or_left, or_right}
use Rattle.std.proofs.Common.{⊎_elim}
use Rattle.std.proofs.lemmas.Bool.{or_cases}
use Rattle.spell.specs.Forms.{in_span}
use Rattle.text_names.specs.Bytes.{back, first, front, is_blank, is_capital, is_name, is_small, skip}
use Rattle.text_names.specs.Entries.{entry_from, entry_name, is_entry}
use Rattle.text_names.specs.Names.{Name}
use Rattle.text_program.specs.Source.{mode_word}

-- ---- bytes

span-low : (a n b : ℕ) → in_span a n b ≡ true → a ≤ b
span-low a n b e = leb-true a b (and-true (leb a b) (leb b (a + n)) e).0

span-high : (a n b : ℕ) → in_span a n b ≡ true → b ≤ a + n
span-high a n b e = leb-true b (a + n) (and-true (leb a b) (leb b (a + n)) e).1

pub small_low : (b : ℕ) → is_small b ≡ true → 97 ≤ b
unfolding is_small
small_low b e = span-low 97 25 b e

pub capital-high : (b : ℕ) → is_capital b ≡ true → b ≤ 90
unfolding is_capital
capital-high b e = span-high 65 25 b e

pub small-name : (b : ℕ) → is_small b ≡ true → is_name b ≡ true
unfolding is_name
small-name b e = or_left (is_small b) _ e

pub capital-name : (b : ℕ) → is_capital b ≡ true → is_name b ≡ true
unfolding is_name
capital-name b e = or_right (is_small b) _ (or_left (is_capital b) _ e)

pub small-no-capital : (b : ℕ) → is_small b ≡ true → is_capital b ≡ false
small-no-capital b e = not_so (is_capital b) (λ f. let h = small_low b e in let k = capital-high b f in omega arith)

name-high : (b : ℕ) → is_name b ≡ true → 48 ≤ b
unfolding is_name is_small is_capital
name-high b e =
    ⊎_elim (λ f. let h = span-low 97 25 b f in omega arith)
    (λ g. ⊎_elim (λ f. let h = span-low 65 25 b f in omega arith)
    (λ h. ⊎_elim (λ f. span-low 48 9 b f) (λ f. let z = eqb-true b 95 f in omega arith) (or_cases (in_span 48 9 b) _ h)) (or_cases (in_span 65 25 b) _ g)) (or_cases (in_span 97 25 b) _ e)

pub name-solid : (b : ℕ) → is_name b ≡ true → is_blank b ≡ false
unfolding is_blank
name-solid b e =
    let h = name-high b e in
    rw (le-leb 9 b (omega arith), lt-leb b (9 + 1) (omega arith), ne_eqb b 13 (λ z. omega arith), ne_eqb b 32 (λ z. omega arith))

-- a letter is no mark
pub letter-high : (b : ℕ) → (is_small b || is_capital b) ≡ true → 65 ≤ b
unfolding is_small is_capital
letter-high b e = ⊎_elim (λ f. let h = span-low 97 25 b f in omega arith) (λ f. span-low 65 25 b f) (or_cases (in_span 97 25 b) _ e)

pub letter-name : (b : ℕ) → (is_small b || is_capital b) ≡ true → is_name b ≡ true
letter-name b e = ⊎_elim (small-name b) (capital-name b) (or_cases (is_small b) (is_capital b) e)

-- ---- names

unfoldable pub all_name : Name → Bool
all_name [] = true
all_name (b ∷ x) = is_name b && all_name x

pub word-all : all_name mode_word ≡ true
unfolding all_name is_name is_small is_capital
word-all = refl

-- bytes of names, a letter first
pub record Spelt (x : Name) : Type 0 where
  pub all : all_name x ≡ true
  pub letter : (is_small (first x) || is_capital (first x)) ≡ true

-- a lower-case letter first
pub record Lower (x : Name) : Type 0 where
  pub all : all_name x ≡ true
  pub small : is_small (first x) ≡ true

pub lower-spelt : (x : Name) → Lower x → Spelt x
lower-spelt x p = record { all = p.all; letter = or_left (is_small (first x)) _ p.small }

pub spelt-some : (x : Name) → Spelt x → 0 < length x
spelt-some [] p = let h = letter-high 0 p.letter in absurd (omega arith)
spelt-some (b ∷ x) p = omega arith

pub front-none : (s : List ℕ) → is_name (first s) ≡ false → front s ≡ []
unfolding front
front-none [] e = refl
front-none (b ∷ s) e = rw e

pub back_none : (s : List ℕ) → is_name (first s) ≡ false → back s ≡ s
unfolding back
back_none [] e = refl
back_none (b ∷ s) e = rw e

pub front_of : (x s : List ℕ) → all_name x ≡ true → is_name (first s) ≡ false → front (x ++ s) ≡ x
unfolding front all_name
front_of [] s e f = front-none s f
front_of (b ∷ x) s e f = let w = and-true (is_name b) (all_name x) e in rw w.0 (ap (λ (r : List ℕ). b ∷ r) (front_of x s w.1 f))

pub back-of : (x s : List ℕ) → all_name x ≡ true → is_name (first s) ≡ false → back (x ++ s) ≡ s
unfolding back all_name
back-of [] s e f = back_none s f
back-of (b ∷ x) s e f = let w = and-true (is_name b) (all_name x) e in rw w.0 (back-of x s w.1 f)

pub first_of : (x s : List ℕ) → Spelt x → first (x ++ s) ≡ first x
first_of [] s p = let h = spelt-some [] p in absurd (omega arith)
first_of (b ∷ x) s p = refl

pub skip_at : (s : List ℕ) → is_blank (first s) ≡ false → skip s ≡ s
unfolding skip
skip_at [] e = refl
skip_at (b ∷ s) e = rw e

pub spelt-begins : (x s : List ℕ) → Spelt x → skip (x ++ s) ≡ x ++ s
spelt-begins x s p = skip_at (x ++ s) (rw (first_of x s p) (name-solid (first x) (letter-name (first x) p.letter)))

-- ---- entries

pub end-no-name : is_name 10 ≡ false
unfolding is_name is_small is_capital
end-no-name = refl

pub front-all : (s : List ℕ) → all_name (front s) ≡ true
unfolding front all_name
front-all [] = refl
front-all (b ∷ s) = go (is_name b) refl (front-all s)
  where
    go : (h : Bool) → is_name b ≡ h → all_name (front s) ≡ true → all_name (cond h (b ∷ front s) []) ≡ true
    go true e i = rw e i
    go false e i = refl

pub first-front : (s : List ℕ) → is_name (first s) ≡ true → first (front s) ≡ first s
unfolding front
first-front [] e = refl
first-front (b ∷ s) e = rw e

pub front-lower : (s : List ℕ) → is_small (first s) ≡ true → Lower (front s)
front-lower s e = record { all = front-all s; small = rw (first-front s (small-name (first s) e)) e }

pub entry-lower : (nm : List ℕ) (k : ℕ) → is_entry nm k ≡ true → Lower (entry_name nm k)
unfolding is_entry
entry-lower nm k e = front-lower (entry_from nm k) (and-true (is_small (first (entry_from nm k))) _ e).0
