-- Request 7: outcomes of the calls that record, when they are refused, and what calls that follow one another have recorded.
use Rattle.std.specs.Prelude.{◌≡◌, [], ◌++◌, List, ◌%◌, ◌*◌, ◌+◌, ◌/◌, ◌<◌, ◌≤◌, suc, ℕ, drop, length, take}
use Rattle.capi.specs.Tells.{RunTracedTells, StepTracedTells, SupplyTracedTells}
use Rattle.parlog.specs.Codes.{dormant}
use Rattle.parlog.specs.Limits.{Limits}
use Rattle.parlog.specs.Notions.{HasMode, Leads}
use Rattle.parlog.specs.Numbers.{rule_number}
use Rattle.parlog.specs.Program.{Program, program_of}
use Rattle.parlog.specs.Relation.{Fits, Rule}
use Rattle.parlog.specs.Tables.{Lent, State, Tables, tables_in}
use Rattle.parlog.specs.declared.Move.{Move}
use Rattle.parlog.specs.declared.Term.TheVariants.{Var}
use Rattle.promises.specs.Moves.{after_step, Holds, RunsExactly, Shows, Supplies}
use Rattle.promises.specs.Outcomes.{large_in, refusal_in}
use Rattle.promises.specs.Reach.{Night}
use Rattle.promises.specs.Refusals.{LetIn, state_in, StepRefused, SupplyRefused, Turn}
use Rattle.run_traced.specs.Traced.{moves_for}
use Rattle.trace.specs.Trace.{following, record_bytes, step_kind, supply_kind, trace_size}
use Rattle.words.specs.Nights.{told_offset}

-- ---- outcomes: row is the row lent besides, row' that row afterwards

-- of rissobarm_step_traced, for process p
pub record StepTracedMeets (lim : Limits) (s : List ℕ) (l : Lent) (row : List ℕ) (p stamp w : ℕ) (l' : Lent) (row' : List ℕ) : Type 0 where
  pub contract : StepTracedTells lim s l row p stamp w l'.head l'.procs l'.vars row'

-- of rissobarm_supply_traced, of the constant k to the goal variable v
pub record SupplyTracedMeets (lim : Limits) (s : List ℕ) (l : Lent) (row : List ℕ) (v k stamp w : ℕ) (l' : Lent) (row' : List ℕ) : Type 0 where
  pub contract : SupplyTracedTells lim s l row v k stamp w l'.head l'.procs l'.vars row'

-- of rissobarm_run_traced, with a step limit
pub record RunTracedMeets (lim : Limits) (s : List ℕ) (l : Lent) (row : List ℕ) (limit stamp w : ℕ) (l' : Lent) (row' : List ℕ) : Type 0 where
  pub contract : RunTracedTells lim s l row limit stamp w l'.head l'.procs l'.vars row'

-- ---- refusals: those of the plain call, then 11 for the row; a run is refused as the plain one

-- Traces 10: the step of p has a rule and room, and its record has none
pub record StepUnrecorded (lim : Limits) (s : List ℕ) (l : Lent) (row : List ℕ) (p : ℕ) : Type 0 where
  pub relations : ℕ
  pub clauses : ℕ
  pub inside : LetIn lim s l relations clauses
  pub rule : Move
  pub after : State
  pub holds : Rule (program_of s relations clauses) (state_in l) p rule after
  pub fits : Fits lim after
  pub short : length row < trace_size

-- Traces 10: the supply finds an unbound variable, and its record has no room
pub record SupplyUnrecorded (lim : Limits) (s : List ℕ) (l : Lent) (row : List ℕ) (v k : ℕ) : Type 0 where
  pub relations : ℕ
  pub clauses : ℕ
  pub inside : LetIn lim s l relations clauses
  pub variable : v < (program_of s relations clauses).goal_vars
  pub constant : k ≤ 32767
  pub unbound : ℕ
  pub value : Leads (state_in l).vars (Var v) (Var unbound)
  pub short : length row < trace_size

-- Traces 10: why the step of p is refused
pub data StepTracedRefused (lim : Limits) (s : List ℕ) (l : Lent) (row : List ℕ) (p : ℕ) : ℕ → ℕ → Type 0 where
  as_plain_step : {n o : ℕ} → StepRefused lim s l p n o → StepTracedRefused lim s l row p n o
  unrecorded_step : StepUnrecorded lim s l row p → StepTracedRefused lim s l row p 11 0

-- Traces 10: a supply
pub data SupplyTracedRefused (lim : Limits) (s : List ℕ) (l : Lent) (row : List ℕ) (v k : ℕ) : ℕ → ℕ → Type 0 where
  as_plain_supply : {n o : ℕ} → SupplyRefused lim s l v k n o → SupplyTracedRefused lim s l row v k n o
  unrecorded_supply : SupplyUnrecorded lim s l row v k → SupplyTracedRefused lim s l row v k 11 0

-- ---- what is recorded

-- Traces 9: the row begins with this record, and behind it is what it was
pub record RowNotes (row bytes row' : List ℕ) : Type 0 where
  pub room : trace_size ≤ length row
  pub front : row' ≡ bytes ++ drop trace_size row

-- Traces 9: the step of p is the plain one, and its record has the process and the rule
pub record StepNoted (lim : Limits) (pr : Program) (l : Lent) (row : List ℕ) (p stamp w : ℕ) (l' : Lent) (row' : List ℕ) : Type 0 where
  pub rule : Move
  pub after : State
  pub shows : Shows lim pr l p rule after w l'
  pub notes : RowNotes row (record_bytes step_kind p (rule_number rule) stamp) row'

-- Traces 9, 12: the supply is the plain one, and its record has the variable that was asked for and the value
pub record SupplyNoted (l : Lent) (row : List ℕ) (v k stamp w : ℕ) (l' : Lent) (row' : List ℕ) : Type 0 where
  pub supplies : Supplies l v k w l'
  pub notes : RowNotes row (record_bytes supply_kind v k stamp) row'

-- Traces 11: moves one after the other, each that of the process whose turn it is, none of them after the goal's end: from the tables t, the first with this
-- stamp; the bytes of their records, each in front of those of the moves behind it, their number, and the tables that they leave
pub data NotedMoves (lim : Limits) (pr : Program) : Tables → ℕ → List ℕ → ℕ → Tables → Type 0 where
  no_move_noted : {t : Tables} {stamp : ℕ} → NotedMoves lim pr t stamp [] 0 t
  move_noted : {t u : Tables} {s' : State} {m : Move} {p stamp k : ℕ} {bytes : List ℕ} → (HasMode t.state 0 dormant → ⊥) → Turn pr t p → Rule pr t.state p m s' → Fits lim s'
      → NotedMoves lim pr (after_step t p s') (following stamp) bytes k u → NotedMoves lim pr t stamp (record_bytes step_kind p (rule_number m) stamp ++ bytes) (suc k) u

-- Traces 11: the run is the plain one, of as many moves as there is room for; the records of its moves, in their order, stand in front of the row, and behind
-- them is what was there
pub record RunNoted (lim : Limits) (s : List ℕ) (pr : Program) (l : Lent) (row : List ℕ) (limit stamp w : ℕ) (l' : Lent) (row' : List ℕ) : Type 0 where
  pub runs : RunsExactly lim s pr l (moves_for (length row) limit) w l'
  pub bytes : List ℕ
  pub after : Tables
  pub moves : NotedMoves lim pr (tables_in l) stamp bytes (large_in w) after
  pub tables : Holds l after l'
  pub room : large_in w * trace_size ≤ length row
  pub front : row' ≡ bytes ++ drop (large_in w * trace_size) row

-- ---- what was recorded

-- Traces 2: the stamp n records on
abbrev pub stamp_after : ℕ → ℕ → ℕ
stamp_after stamp n = (stamp + n) % 65536

-- Traces 9, 11: calls that record and are not refused, each with the bytes that the one before left and the stamp that follows: from l with the stamp a
-- to m with the stamp b, and the bytes recorded, one behind the other
pub data Recorded (lim : Limits) (s : List ℕ) (l : Lent) (a : ℕ) : List ℕ → Lent → ℕ → Type 0 where
  nothing_yet : Recorded lim s l a [] l a
  then_step_traced : {x row row' : List ℕ} {m m' : Lent} {b p w : ℕ} → Recorded lim s l a x m b → StepTracedMeets lim s m row p b w m' row' → refusal_in w ≡ 0
      → Recorded lim s l a (x ++ take trace_size row') m' (following b)
  then_supply_traced : {x row row' : List ℕ} {m m' : Lent} {b v k w : ℕ} → Recorded lim s l a x m b → SupplyTracedMeets lim s m row v k b w m' row' → refusal_in w ≡ 0
      → Recorded lim s l a (x ++ take trace_size row') m' (following b)
  then_run_traced : {x row row' : List ℕ} {m m' : Lent} {b limit w : ℕ} → Recorded lim s l a x m b → RunTracedMeets lim s m row limit b w m' row' → refusal_in w ≡ 0
      → Recorded lim s l a (x ++ take (large_in w * trace_size) row') m' (stamp_after b (large_in w))

-- Traces 6: of a replay of the trace x: no refusal, the number of all its records is told, and the bytes afterwards are those of m
pub record PlaysBack (x : List ℕ) (w : ℕ) (m m' : Lent) : Type 0 where
  pub accepted : refusal_in w ≡ 0
  pub told : large_in w ≡ told_offset (length x / trace_size)
  pub bytes : m' ≡ m

-- ---- what was recorded over nights

-- Traces 9, 11, Saved 10: the same with nights in between: the calls of the next day begin with the bytes that were read back and the stamp that follows
pub data RecordedOver (lim : Limits) (s : List ℕ) (l : Lent) (a : ℕ) : List ℕ → Lent → ℕ → Type 0 where
  first_day : {x : List ℕ} {m : Lent} {b : ℕ} → Recorded lim s l a x m b → RecordedOver lim s l a x m b
  then_night_traced : {x y : List ℕ} {m n m' : Lent} {b c : ℕ} → RecordedOver lim s l a x m b → Night lim s m n → Recorded lim s n b y m' c
      → RecordedOver lim s l a (x ++ y) m' c

-- Traces 6: of a replay of the trace x on the bytes l: no refusal, the number of all its records is told, and the bytes hold the tables of m. Past their
-- rows they are those of l, where m may have the zeros of a night
pub record PlaysTo (x : List ℕ) (w : ℕ) (l m m' : Lent) : Type 0 where
  pub accepted : refusal_in w ≡ 0
  pub told : large_in w ≡ told_offset (length x / trace_size)
  pub tables : Holds l (tables_in m) m'
