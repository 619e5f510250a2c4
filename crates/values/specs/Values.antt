-- A look at all goal variables: its answer, and the row that it is lent, byte for byte.
use Rattle.parlog.specs.Answer.{Answer}
use Rattle.parlog.specs.declared.Term.{Term}
use Rattle.std.specs.Prelude.{◌≡◌, Bool, false, true, List, ◌*◌, ℕ, leb, length, Option, Some, Ok, Err}
use Rattle.parlog.specs.Calls.{enter, entered, Entry, turned_away}
use Rattle.parlog.specs.Limits.{Limits}
use Rattle.parlog.specs.Load.{refusal}
use Rattle.parlog.specs.Numbers.{Numbers, refused_as}
use Rattle.parlog.specs.Scan.{build}
use Rattle.parlog.specs.Tables.{binding_bytes, cell_size, Lent, rows_bytes, written}
use Rattle.parlog.specs.Unify.{value}
use Rattle.parlog.specs.declared.Term.TheVariants.{Var}

-- Values 1: the value of variable v in the form of a variable row
abbrev pub value_in : List (Option Term) → ℕ → Option Term
value_in vs v = Some (value vs (Var v))

-- Values 1: the values of the first n variables, one row behind the other
unfoldable pub values_bytes : List (Option Term) → ℕ → List ℕ
values_bytes vs n = rows_bytes binding_bytes (build (value_in vs) n)

-- what such a look answers and leaves of the row
pub record ValuesCall : Type 0 where
  pub answer : Answer ℕ
  pub row : List ℕ

-- Values 1 to 4: the row is large enough, or not
abbrev pub gather_by : Bool → ℕ → List (Option Term) → List ℕ → ValuesCall
gather_by false n vs row = record { answer = Err (refusal 11 0); row = row }
gather_by true n vs row = record { answer = Ok n; row = written (values_bytes vs n) row }

-- Values 3: whether it is, with n variables
unfoldable pub gathered : ℕ → List (Option Term) → List ℕ → ValuesCall
gathered n vs row = gather_by (leb (n * cell_size) (length row)) n vs row

-- Values 3: a call that was let in looks
abbrev pub values_entry : Entry → List ℕ → ValuesCall
values_entry (turned_away r) row = record { answer = Err r; row = row }
values_entry (entered pr t) row = gathered pr.goal_vars t.state.vars row

-- the values of all goal variables
unfoldable pub values_call : Limits → List ℕ → Lent → List ℕ → ValuesCall
values_call lim s l row = values_entry (enter lim s l) row

-- Values 2: the numbers of its answer: how many variables
abbrev pub values_numbers : Answer ℕ → Numbers
values_numbers (Ok n) = record { refused = 0; a = 0; b = 0; c = n }
values_numbers (Err r) = refused_as r

-- ---- contracts

-- what the rest of the call promises, once it was let in
pub record GatherSays (n : ℕ) (vs : List (Option Term)) (row : List ℕ) (r : Answer ℕ) (after : List ℕ) : Type 0 where
  pub answer : r ≡ (gathered n vs row).answer
  pub row_is : after ≡ (gathered n vs row).row

-- Values 1 to 4: the whole call
pub record ValuesSays (lim : Limits) (s : List ℕ) (l : Lent) (row : List ℕ) (r : Answer ℕ) (after : List ℕ) : Type 0 where
  pub answer : r ≡ (values_call lim s l row).answer
  pub row_is : after ≡ (values_call lim s l row).row
