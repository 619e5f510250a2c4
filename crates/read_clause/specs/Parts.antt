-- A clause by the places of its parts.
use Rattle.std.specs.Prelude.{◌&&◌, [], List, ◌≡◌, ◌≤◌, ℕ, leb, drop, length}
use Rattle.read_clause.specs.declared.ClauseAt.{ClauseAt}
use Rattle.read_clause.specs.declared.Part.{Part}
use Rattle.read_clause.specs.declared.Part.TheVariants.{Absent, Body, Goal}
use Rattle.read_clause.specs.declared.Parts.{Parts}
use Rattle.read_goal.specs.Spans.{goal_right}
use Rattle.text_names.specs.Bytes.{front}
use Rattle.text_program.specs.Source.{Got, Halves, read_body, read_brackets, read_goal, read_term, Said, SaidClause}

-- no goal, the goal at a place, or one where the line does not end there
abbrev pub part_of : List ℕ → Part → List (List Said)
part_of s Absent = []
part_of s (Goal at) = (read_goal (drop at s)).value
part_of s (Body at) = (read_body (drop at s)).value

-- the place is in the text
abbrev pub PartIn : List ℕ → Part → Type 0
PartIn s Absent = Unit {0}
PartIn s (Goal at) = at ≤ length s
PartIn s (Body at) = at ≤ length s

-- guard and body, whether an image may have them, and the text behind them
pub record PartsIn (s : List ℕ) (g : Got Halves) (r : Parts) : Type 0 where
  pub guard : part_of s r.guard ≡ g.value.guard
  pub body : part_of s r.body ≡ g.value.body
  pub right : r.right ≡ (goal_right g.value.guard && goal_right g.value.body)
  pub end : drop r.end s ≡ g.rest
  pub guard_in : PartIn s r.guard
  pub body_in : PartIn s r.body
  pub end_in : r.end ≤ length s

-- the clause at a place
pub record ClauseIn (s : List ℕ) (at : ℕ) (g : Got SaidClause) (r : ClauseAt) : Type 0 where
  pub name : front (drop at s) ≡ g.value.name
  pub terms : (read_brackets read_term (drop r.terms s)).value ≡ g.value.terms
  pub arity : r.arity ≡ length g.value.terms
  pub guard : part_of s r.guard ≡ g.value.guard
  pub body : part_of s r.body ≡ g.value.body
  pub right : r.right ≡ (leb (length g.value.terms) 4 && (goal_right g.value.guard && goal_right g.value.body))
  pub semicolon : r.semicolon ≡ g.value.semicolon
  pub next : drop r.next s ≡ g.rest
  pub terms_in : r.terms ≤ length s
  pub guard_in : PartIn s r.guard
  pub body_in : PartIn s r.body
  pub next_in : r.next ≤ length s
