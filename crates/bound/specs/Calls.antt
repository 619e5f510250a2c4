-- Step, turn and supply that tell the variables bound: which they are, their bytes, and the calls with one row more.
use Rattle.parlog.specs.declared.Move.{Move}
use Rattle.parlog.specs.Answer.{Answer}
use Rattle.std.specs.Prelude.{◌≡◌, Bool, false, true, [], ◌∷◌, List, ℕ, leb, length, Option, Some, Ok, Err, None}
use Rattle.bound_row.specs.Row.{bound_bytes}
use Rattle.lay.specs.Lay.{laid}
use Rattle.parlog.specs.Calls.{enter, entered, Entry, step_answer, step_call, supply_call, turn_call, turned_away}
use Rattle.parlog.specs.Limits.{Limits}
use Rattle.parlog.specs.Load.{refusal}
use Rattle.parlog.specs.Program.{Program, program_of}
use Rattle.parlog.specs.Rules.{Applied, by_rule, no_rule, rule_of}
use Rattle.parlog.specs.Run.{Stepping, step_tables, turn_for, turn_tables}
use Rattle.parlog.specs.Tables.{Lent, Tables, tables_in}
use Rattle.unify.specs.Pending.{vars_bound}

-- ---- which variables

-- Bound 2: those of a rule: what it binds, in the unifier's order
abbrev pub bound_by : Applied → List ℕ
bound_by no_rule = []
bound_by (by_rule m d) = vars_bound d.changes

-- Bound 2: those of the step of process p
unfoldable pub step_binds : Program → Tables → ℕ → List ℕ
step_binds pr t p = bound_by (rule_of pr t.state p)

-- Bound 2: those of the step of whose turn it is
abbrev pub found_binds : Option ℕ → Program → Tables → List ℕ
found_binds None pr t = []
found_binds (Some p) pr t = step_binds pr t p

-- Bound 2: those of a turn
unfoldable pub turn_binds : Program → Tables → List ℕ
turn_binds pr t = found_binds (turn_for pr t) pr t

-- ---- a call that is lent one row more

-- what it answers and leaves
pub record RowCall (A : Type 0) : Type 0 where
  pub answer : A
  pub lent : Lent
  pub row : List ℕ

-- Bound 4, 5: what is made is told where the row has room for it, else it is refused and nothing is written
abbrev pub tell_by : {A : Type 0} → Bool → A → A → Lent → Lent → List ℕ → List ℕ → RowCall A
tell_by false refuse done after l row bytes = record { answer = refuse; lent = l; row = row }
tell_by true refuse done after l row bytes = record { answer = done; lent = after; row = laid row 0 bytes }

-- Bound 4, 5: the same, by the lengths of both
unfoldable pub tell_in : {A : Type 0} → A → A → Lent → Lent → List ℕ → List ℕ → RowCall A
tell_in refuse done after l row bytes = tell_by (leb (length bytes) (length row)) refuse done after l row bytes

-- Bound 3, 5: a step by what the plain call answers and leaves
abbrev pub step_tells : Answer Move → Lent → Lent → List ℕ → List ℕ → RowCall (Answer Move)
step_tells (Err r) after l row vs = record { answer = Err r; lent = after; row = row }
step_tells (Ok m) after l row vs = tell_in (Err (refusal 11 0)) (Ok m) after l row (bound_bytes vs)

-- Bound 3: of one that was let in
abbrev pub step_bound : Stepping → Lent → List ℕ → List ℕ → RowCall (Answer Move)
step_bound a l row vs = step_tells (step_answer a l).answer (step_answer a l).lent l row vs

-- Bound 2, 5: a supply, by what the plain call answers and leaves: the variable that takes the binding
abbrev pub supply_tells : Answer ℕ → Lent → Lent → List ℕ → RowCall (Answer ℕ)
supply_tells (Err r) after l row = record { answer = Err r; lent = after; row = row }
supply_tells (Ok v) after l row = tell_in (Err (refusal 11 0)) (Ok v) after l row (bound_bytes (v ∷ []))

-- ---- the calls

-- what a call that was let in tells
abbrev pub binds_of : Entry → (Program → Tables → List ℕ) → List ℕ
binds_of (turned_away r) f = []
binds_of (entered pr t) f = f pr t

-- Bound 3: the step by number
unfoldable pub step_bound_call : Limits → List ℕ → Lent → List ℕ → ℕ → RowCall (Answer Move)
step_bound_call lim s l row p = step_tells (step_call lim s l p).answer (step_call lim s l p).lent l row (binds_of (enter lim s l) (λ pr t. step_binds pr t p))

-- Bound 3: the turn
unfoldable pub turn_bound_call : Limits → List ℕ → Lent → List ℕ → RowCall (Answer Move)
turn_bound_call lim s l row = step_tells (turn_call lim s l).answer (turn_call lim s l).lent l row (binds_of (enter lim s l) turn_binds)

-- Bound 3: the supply of c for the goal's variable v
unfoldable pub supply_bound_call : Limits → List ℕ → Lent → List ℕ → ℕ → ℕ → RowCall (Answer ℕ)
supply_bound_call lim s l row v c = supply_tells (supply_call lim s l v c).answer (supply_call lim s l v c).lent l row

-- ---- the contracts

-- answer and rows afterwards are those of the call
pub record RowSays {A : Type 0} (c : RowCall A) (a : A) (h ps vs w : List ℕ) : Type 0 where
  pub answer : a ≡ c.answer
  pub head : h ≡ c.lent.head
  pub procs : ps ≡ c.lent.procs
  pub vars : vs ≡ c.lent.vars
  pub row : w ≡ c.row

-- the step and the turn in tables that keep the rules
abbrev pub step_bound_in : Limits → List ℕ → ℕ → ℕ → Lent → List ℕ → ℕ → RowCall (Answer Move)
step_bound_in lim s r c l row p = step_bound (step_tables lim (program_of s r c) (tables_in l) p) l row (step_binds (program_of s r c) (tables_in l) p)

abbrev pub turn_bound_in : Limits → List ℕ → ℕ → ℕ → Lent → List ℕ → RowCall (Answer Move)
turn_bound_in lim s r c l row = step_bound (turn_tables lim (program_of s r c) (tables_in l)) l row (turn_binds (program_of s r c) (tables_in l))
