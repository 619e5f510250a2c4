-- What the names of a record are read with: the numbers of kinds, the arities of the relations before it, and goals that end inside the bytes.
use Rattle.std.specs.Prelude.{◌≡◌, List, ◌+◌, ◌<◌, ◌≤◌, ℕ, length}
use Rattle.load_names.specs.declared.Kind.{Kind}
use Rattle.load_names.specs.declared.Kind.TheVariants.{Clause, Goal, Relation}
use Rattle.parlog.specs.Image.{body_at, byte_at, clause_kind, goal_end, goal_kind, relation_kind}
use Rattle.parlog.specs.Names.{arity_of}
use Rattle.parlog.specs.declared.Term.{Term}
use Rattle.parlog.specs.declared.Term.TheVariants.{Const, Var}

-- the number that an image has for a kind of record
abbrev pub kind_number : Kind → ℕ
kind_number Relation = relation_kind
kind_number Clause = clause_kind
kind_number Goal = goal_kind

-- the table t holds the arities of the first n relations
pub record Arities (s : List ℕ) (n : ℕ) (t : List ℕ) : Type 0 where
  pub arity : (k : ℕ) → k < n → byte_at t k ≡ arity_of s k

-- a clause's goals end inside, or the image's goal does
pub record GoalsIn (s : List ℕ) (at kind : ℕ) : Type 0 where
  pub clause : kind ≡ 2 → goal_end s (body_at s at) ≤ length s
  pub ask : (kind ≡ 1 → ⊥) → (kind ≡ 2 → ⊥) → goal_end s (at + 5) ≤ length s

-- Image 9: the number that a term is in an image
abbrev pub word_of : Term → ℕ
word_of (Const c) = c
word_of (Var v) = 32768 + v
