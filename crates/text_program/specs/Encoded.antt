-- The image of a program: its records, byte by byte. A number that is too large for its byte stands there as it is, for the loader to refuse.
use Rattle.std.specs.Prelude.{[], ◌++◌, ◌∷◌, List, ◌%◌, ◌+◌, ◌/◌, ℕ, length}
use Rattle.parlog.specs.Image.{clause_kind, first_variable, goal_kind, relation_kind}
use Rattle.parlog.specs.Program.{Clause, Goal, Literal, Program}
use Rattle.parlog.specs.Records.{front_size}
use Rattle.parlog.specs.declared.Term.{Term}
use Rattle.parlog.specs.declared.Term.TheVariants.{Const, Var}
use Rattle.text_program.specs.Numbered.{joined}

-- Image 2: a number of two bytes, the low one in front
abbrev pub word_bytes : ℕ → List ℕ
word_bytes w = w % 256 ∷ w / 256 ∷ []

-- Image 9: a term
unfoldable pub term_bytes : Term → List ℕ
term_bytes (Const c) = word_bytes c
term_bytes (Var v) = word_bytes (first_variable + v)

-- Image 11: relation, arity, terms
unfoldable pub literal_bytes : Literal → List ℕ
literal_bytes l = l.rel ∷ length l.args ∷ joined term_bytes l.args

-- Image 10: a stage
unfoldable pub stage_bytes : List Literal → List ℕ
stage_bytes st = length st ∷ joined literal_bytes st

-- Image 10: a goal
unfoldable pub goal_bytes : Goal → List ℕ
goal_bytes g = length g ∷ joined stage_bytes g

-- Image 1: a record
unfoldable pub record_bytes : ℕ → List ℕ → List ℕ
record_bytes kind body = word_bytes (front_size + length body) ++ (word_bytes kind ++ body)

-- Image 3: a relation by its modes
unfoldable pub relation_bytes : List ℕ → List ℕ
relation_bytes ms = record_bytes relation_kind (length ms ∷ ms)

-- Image 5: a clause
unfoldable pub clause_bytes : Clause → List ℕ
clause_bytes c =
    record_bytes clause_kind
    (c.rel ∷ length c.head ∷ c.mark ∷ c.vars ∷ (joined term_bytes c.head ++ (goal_bytes c.guard ++ goal_bytes c.body)))

-- Image 8: the goal with its variables
unfoldable pub ask_bytes : ℕ → Goal → List ℕ
ask_bytes n g = record_bytes goal_kind (n ∷ goal_bytes g)

-- Image 1: all records
unfoldable pub program_bytes : Program → List ℕ
program_bytes pr = joined relation_bytes pr.relations ++ (joined clause_bytes pr.clauses ++ ask_bytes pr.goal_vars pr.goal)
