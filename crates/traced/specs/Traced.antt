-- Step and supply that record: the record of the move, where it stands, and the calls with one row more.
use Rattle.parlog.specs.declared.Move.{Move}
use Rattle.parlog.specs.Answer.{Answer}
use Rattle.std.specs.Prelude.{[], List, ℕ, Ok, Err}
use Rattle.bound.specs.Calls.{RowCall, tell_in}
use Rattle.parlog.specs.Calls.{step_call, supply_call}
use Rattle.parlog.specs.Limits.{Limits}
use Rattle.parlog.specs.Load.{refusal}
use Rattle.parlog.specs.Numbers.{rule_number}
use Rattle.parlog.specs.Tables.{Lent}
use Rattle.trace.specs.Trace.{record_bytes, step_kind, supply_kind}

-- ---- the calls

-- Traces 9, 10: a step, by what the plain call answers and leaves
abbrev pub step_traces : Answer Move → Lent → Lent → List ℕ → ℕ → ℕ → RowCall (Answer Move)
step_traces (Err r) after l row p stamp = record { answer = Err r; lent = after; row = row }
step_traces (Ok m) after l row p stamp = tell_in (Err (refusal 11 0)) (Ok m) after l row (record_bytes step_kind p (rule_number m) stamp)

-- Traces 9, 10: the step by number
unfoldable pub step_traced_call : Limits → List ℕ → Lent → List ℕ → ℕ → ℕ → RowCall (Answer Move)
step_traced_call lim s l row p stamp = step_traces (step_call lim s l p).answer (step_call lim s l p).lent l row p stamp

-- Traces 9, 10, 12: a supply, by what the plain call answers and leaves: its record has the variable that was asked for
abbrev pub supply_traces : Answer ℕ → Lent → Lent → List ℕ → ℕ → ℕ → ℕ → RowCall (Answer ℕ)
supply_traces (Err r) after l row v c stamp = record { answer = Err r; lent = after; row = row }
supply_traces (Ok w) after l row v c stamp = tell_in (Err (refusal 11 0)) (Ok w) after l row (record_bytes supply_kind v c stamp)

-- Traces 9, 10: the supply of c for the goal's variable v
unfoldable pub supply_traced_call : Limits → List ℕ → Lent → List ℕ → ℕ → ℕ → ℕ → RowCall (Answer ℕ)
supply_traced_call lim s l row v c stamp = supply_traces (supply_call lim s l v c).answer (supply_call lim s l v c).lent l row v c stamp

-- ---- contracts

-- what is answered where there is no room for the record
abbrev pub step_unnoted : Answer Move → Answer Move
step_unnoted (Err r) = Err r
step_unnoted (Ok m) = Err (refusal 11 0)

abbrev pub supply_unnoted : Answer ℕ → Answer ℕ
supply_unnoted (Err r) = Err r
supply_unnoted (Ok w) = Err (refusal 11 0)

-- the record of a move, where one was made
abbrev pub move_record : Answer Move → ℕ → ℕ → List ℕ
move_record (Err r) p stamp = []
move_record (Ok m) p stamp = record_bytes step_kind p (rule_number m) stamp

-- the record of a supply, where one was made
abbrev pub supply_record : Answer ℕ → ℕ → ℕ → ℕ → List ℕ
supply_record (Err r) v c stamp = []
supply_record (Ok w) v c stamp = record_bytes supply_kind v c stamp
