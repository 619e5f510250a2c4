-- The run that records: the records of its moves, and the call with one row more.
use Rattle.parlog.specs.declared.Move.{Move}
use Rattle.parlog.specs.declared.End.{End}
use Rattle.parlog.specs.Answer.{Answer}
use Rattle.std.specs.Prelude.{◌≡◌, cond, [], ◌++◌, List, ◌*◌, ◌-◌, ◌/◌, suc, zero, ℕ, ltb, length, Option, Some, None}
use Rattle.bound.specs.Calls.{RowCall}
use Rattle.lay.specs.Lay.{laid}
use Rattle.parlog.specs.Calls.{enter, entered, Entry, run_call, turned_away}
use Rattle.parlog.specs.Limits.{Limits}
use Rattle.parlog.specs.Numbers.{rule_number}
use Rattle.parlog.specs.Program.{Program, program_of}
use Rattle.parlog.specs.Run.{goal_ended, made, Stepping, step_tables, turn_for, unmade}
use Rattle.parlog.specs.Tables.{Lent, Tables, tables_in}
use Rattle.run.specs.Running.{Going, RanSays, unless_ended}
use Rattle.step.specs.Stepping.{SteppedSays}
use Rattle.trace.specs.Trace.{following, record_bytes, step_kind, trace_size}
use Rattle.traced.specs.Traced.{move_record}

-- ---- the records

-- Traces 11: the record of a move that is made, and those behind it
abbrev pub record_then : Stepping → ℕ → ℕ → (Tables → List ℕ) → List ℕ
record_then (unmade k) p stamp go = []
record_then (made m t) p stamp go = record_bytes step_kind p (rule_number m) stamp ++ go t

-- Traces 11: that of whose turn it is
abbrev pub record_turn : Option ℕ → (ℕ → List ℕ) → List ℕ
record_turn None go = []
record_turn (Some p) go = go p

-- Traces 11: of at most n moves from these tables on, the first with this stamp
unfoldable pub run_records : ℕ → Limits → Program → ℕ → Tables → List ℕ
run_records zero lim pr stamp t = []
run_records (suc n) lim pr stamp t = record_turn (unless_ended (goal_ended t) (turn_for pr t)) (λ p. record_then (step_tables lim pr t p) p stamp (λ t'. run_records n lim pr (following stamp) t'))

-- ---- the call

-- Traces 11: how many moves a run may make: the limit, or as many as there is room for records, where that is less
abbrev pub moves_for : ℕ → ℕ → ℕ
moves_for bytes limit = cond (ltb (bytes / trace_size) limit) (bytes / trace_size) limit

-- Traces 11: a call that was let in records its moves
abbrev pub records_of : Entry → ℕ → Limits → ℕ → List ℕ
records_of (turned_away r) n lim stamp = []
records_of (entered pr t) n lim stamp = run_records n lim pr stamp t

-- Traces 11: the plain run of so many moves, and the records of those that it makes
abbrev pub run_traces : ℕ → Limits → List ℕ → Lent → List ℕ → ℕ → RowCall (Answer (End × ℕ))
run_traces n lim s l row stamp = record { answer = (run_call lim s l n).answer; lent = (run_call lim s l n).lent; row = laid row 0 (records_of (enter lim s l) n lim stamp) }

-- Traces 11: the run
unfoldable pub run_traced_call : Limits → List ℕ → Lent → List ℕ → ℕ → ℕ → RowCall (Answer (End × ℕ))
run_traced_call lim s l row limit stamp = run_traces (moves_for (length row) limit) lim s l row stamp

-- ---- contracts

-- one move of a run: the plain step, and its record at this place
pub record MoveSays (lim : Limits) (s : List ℕ) (r c : ℕ) (l : Lent) (row : List ℕ) (p place stamp : ℕ) (a : Answer Move) (h ps vs w : List ℕ) : Type 0 where
  pub step : SteppedSays lim s r c l p a h ps vs
  pub row_is : w ≡ laid row place (move_record a p stamp)

-- k moves of the run are made: what is left gives what the whole gives, the records too
pub record GoingTraced (lim : Limits) (s : List ℕ) (r c : ℕ) (l₀ l : Lent) (row₀ row : List ℕ) (limit k stamp₀ stamp : ℕ) : Type 0 where
  pub going : Going lim s r c l₀ l limit k
  pub row_is : laid row₀ 0 (run_records limit lim (program_of s r c) stamp₀ (tables_in l₀)) ≡ laid row (k * trace_size) (run_records (limit - k) lim (program_of s r c) stamp (tables_in l))

-- Traces 11: a run in good tables
pub record RanTraced (lim : Limits) (s : List ℕ) (r c : ℕ) (l : Lent) (row : List ℕ) (limit stamp : ℕ) (a : Answer (End × ℕ)) (l' : Lent) (w : List ℕ) : Type 0 where
  pub ran : RanSays lim s r c l limit a l'
  pub row_is : w ≡ laid row 0 (run_records limit lim (program_of s r c) stamp (tables_in l))
