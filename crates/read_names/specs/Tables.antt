-- Names by their places: tables of places, and the mode lines of a text.
use Rattle.std.specs.Prelude.{Bool, cond, false, true, [], ◌∷◌, List, map, ◌≡◌, ◌≤◌, ℕ, drop, length, take, Option, Some, None}
use Rattle.read_names.specs.declared.Entry.{Entry}
use Rattle.text_names.specs.Bytes.{front}
use Rattle.text_names.specs.Names.{adds, look, Name, same_name}
use Rattle.text_program.specs.Numbered.{lowers, uppers}
use Rattle.text_program.specs.Source.{is_mode_line, lines, ModeLine, read_mode_line}

-- the names at some places of a text
unfoldable pub names_at : List ℕ → List ℕ → List Name
names_at s [] = []
names_at s (q ∷ qs) = front (drop q s) ∷ names_at s qs

-- the variables among some names, or the constants
unfoldable pub sorted : Bool → List Name → List Name
sorted true ts = uppers ts
sorted false ts = lowers ts

-- table t with n names becomes table u with m: the names xs are added by first appearance, as far as there is room
pub record Adds (s t : List ℕ) (n : ℕ) (u : List ℕ) (m : ℕ) (xs : List Name) : Type 0 where
  pub names : names_at s (take m u) ≡ take (length t) (adds (names_at s (take n t)) xs)
  pub size : length u ≡ length t
  pub inside : m ≤ length u

-- the mode lines from a place on
abbrev pub modes_from : List ℕ → ℕ → List ModeLine
modes_from s at = (lines is_mode_line read_mode_line (drop at s)).value

-- their names
abbrev pub mode_names : List ModeLine → List Name
mode_names ms = map (λ (m : ModeLine). m.name) ms

-- how many modes the relation of a name has
unfoldable pub arity_for : List ModeLine → Name → ℕ
arity_for [] x = 0
arity_for (m ∷ ms) x = cond (same_name m.name x) (length m.modes) (arity_for ms x)

-- the same where it has a line, else none
unfoldable pub arity_at : List ModeLine → Name → Option ℕ
arity_at [] x = None
arity_at (m ∷ ms) x = cond (same_name m.name x) (Some (length m.modes)) (arity_at ms x)

-- the number of a relation, and how many modes it has, if it has a line
pub record Finds (ms : List ModeLine) (x : Name) (r : Entry) : Type 0 where
  pub number : r.number ≡ look (mode_names ms) x
  pub arity : r.arity ≡ arity_at ms x
