-- A walk over the calls of a text, by places.
use Rattle.std.specs.Prelude.{◌≡◌, [], ◌∷◌, List, ◌≤◌, ℕ, drop, length, take, IfSome, Option, Some, None}
use Rattle.missing_call.specs.Least.{least, missing}
use Rattle.missing_call.specs.declared.Asked.{Asked}
use Rattle.missing_call.specs.declared.Seen.{Seen}
use Rattle.read_names.specs.Tables.{names_at}
use Rattle.text_names.specs.Bytes.{front}
use Rattle.text_names.specs.Names.{Name}

-- the name at a place, or none
abbrev pub one_at : List ℕ → Option ℕ → List Name
one_at s (Some q) = front (drop q s) ∷ []
one_at s None = []

-- the place, if there is one, is in the text
abbrev pub OneIn : List ℕ → Option ℕ → Type 0
OneIn s b = IfSome b (λ q. q ≤ length s)

-- nothing was seen yet
abbrev pub unseen : ℕ → Seen
unseen from = record { end = from; at = None }

-- the least of the names that are looked for by a class, a table and a bound, and of what was seen so far
abbrev pub least_of : List ℕ → List ℕ → Asked → Seen → List Name → List Name
least_of s t a w xs = least (missing a.class (names_at s (take a.count t)) (one_at s a.bound)) (one_at s w.at) xs

-- the places of a walk are in the text
pub record Within (s : List ℕ) (w : Seen) : Type 0 where
  pub inside : w.end ≤ length s
  pub within : OneIn s w.at

-- the text behind what was walked over, and the least name
pub record Sees (s rest : List ℕ) (m : List Name) (r : Seen) : Type 0 where
  pub end : drop r.end s ≡ rest
  pub inside : r.end ≤ length s
  pub name : one_at s r.at ≡ m
  pub within : OneIn s r.at
