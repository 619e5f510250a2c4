-- Replays computed from bytes: c6 with A supplied as 1 once nothing can move, from the stamp 65,533 on, whole and damaged.
-- ---- a trace from what each record tells
use Rattle.parlog.specs.Answer.{Answer}
use Rattle.std.specs.Prelude.{◌≡◌, ◌&&◌, Bool, false, true, [], ◌++◌, ◌∷◌, List, ◌*◌, ℕ, eqb, drop, length, set, take, Err, Ok}
use Rattle.parlog.specs.Calls.{run_call, start_call, supply_call}
use Rattle.parlog.specs.Cases.{ask_one}
use Rattle.parlog.specs.Limits.{Limits}
use Rattle.parlog.specs.Load.{refusal}
use Rattle.parlog.specs.Tables.{cell_size, head_size, Lent, lent, marker_steps, proc_count, row_size, zeros}
use Rattle.replay.specs.Replay.{replay_call}
use Rattle.trace.specs.Trace.{following, record_bytes, step_kind, supply_kind}

-- a record but for its stamp: process and rule of a step, variable and value of a supply
pub data Line : Type 0 where
  steps : ℕ → ℕ → Line
  gives : ℕ → ℕ → Line

-- Traces 1: with its stamp
abbrev pub line_bytes : Line → ℕ → List ℕ
line_bytes (steps p rule) stamp = record_bytes step_kind p rule stamp
line_bytes (gives v value) stamp = record_bytes supply_kind v value stamp

-- Traces 2: records one after the other, the first with this stamp
unfoldable pub trace_from : ℕ → List Line → List ℕ
trace_from stamp [] = []
trace_from stamp (x ∷ xs) = line_bytes x stamp ++ trace_from (following stamp) xs

-- ---- c6: mode q(?), fact q(1), goal q(A)

abbrev pub asked : List ℕ
asked = ask_one 0 1

-- room for eight processes and four variables
abbrev pub tiny : Limits
tiny = record { procs = 8; vars = 4 }

-- the bytes after a start
abbrev pub begun : Lent
begun = (start_call tiny asked (lent (zeros head_size) (zeros (8 * row_size)) (zeros (4 * cell_size)))).lent

-- after so many turns
abbrev pub turned : ℕ → Lent
turned n = (run_call tiny asked begun n).lent

-- where A is supplied as 1 after nine, and the goal has ended
abbrev pub ended : Lent
ended = (run_call tiny asked (supply_call tiny asked (turned 9) 0 1).lent 100).lent

-- the nine steps, the supply, and nine steps more
abbrev pub lines : List Line
lines =
    steps 0 11 ∷ steps 1 16 ∷ steps 2 20 ∷ steps 3 1 ∷ steps 3 23 ∷ steps 4 1 ∷ steps 5 1 ∷ steps 4 28 ∷ steps 5 29
    ∷ gives 0 1
    ∷ steps 4 2 ∷ steps 4 26 ∷ steps 3 24 ∷ steps 2 21 ∷ steps 1 18 ∷ steps 0 12 ∷ steps 6 9 ∷ steps 0 13 ∷ steps 0 3 ∷ []

abbrev pub trace : List ℕ
trace = trace_from 65533 lines

-- ten bytes from a place
abbrev pub ten : ℕ → List ℕ
ten at = take 10 (drop at trace)

-- Traces 1, 2: its bytes; the stamp behind 65,535 is 0
abbrev pub TraceBytes : Type 0
TraceBytes =
    (length trace ≡ 190)
    × (ten 0 ≡ 10 ∷ 0 ∷ 32 ∷ 0 ∷ 0 ∷ 0 ∷ 11 ∷ 0 ∷ 253 ∷ 255 ∷ [])
    × (ten 20 ≡ 10 ∷ 0 ∷ 32 ∷ 0 ∷ 2 ∷ 0 ∷ 20 ∷ 0 ∷ 255 ∷ 255 ∷ [])
    × (ten 30 ≡ 10 ∷ 0 ∷ 32 ∷ 0 ∷ 3 ∷ 0 ∷ 1 ∷ 0 ∷ 0 ∷ 0 ∷ [])
    × (ten 70 ≡ 10 ∷ 0 ∷ 32 ∷ 0 ∷ 4 ∷ 0 ∷ 28 ∷ 0 ∷ 4 ∷ 0 ∷ [])
    × (ten 90 ≡ 10 ∷ 0 ∷ 33 ∷ 0 ∷ 0 ∷ 0 ∷ 1 ∷ 0 ∷ 6 ∷ 0 ∷ [])

-- the same bytes
unfoldable pub same : List ℕ → List ℕ → Bool
same [] [] = true
same [] (y ∷ ys) = false
same (x ∷ xs) [] = false
same (x ∷ xs) (y ∷ ys) = eqb x y && same xs ys

-- the same in all three tables
abbrev pub same_lent : Lent → Lent → Bool
same_lent l m = same l.head m.head && (same l.procs m.procs && same l.vars m.vars)

-- a replay of x on the tables l: its answer, and the tables afterwards
abbrev pub Comes : Lent → List ℕ → Answer ℕ → Lent → Type 0
Comes l x a l' = ((replay_call tiny asked l x).answer ≡ a) × (same_lent (replay_call tiny asked l x).lent l' ≡ true)

-- Traces 5, 6: the whole trace gives the run's tables; so does its end in mid-run; an empty one is played too
abbrev pub ReplayedSo : Type 0
ReplayedSo = Comes begun trace (Ok 19) ended × Comes (turned 9) (drop 90 trace) (Ok 10) ended × Comes begun [] (Ok 0) begun

-- Traces 7: another rule for the eighth step: what seven steps made is left; a value that is no constant; a step of no process; a step that is refused
abbrev pub Disagrees : Type 0
Disagrees =
    Comes begun (set trace 76 26) (Err (refusal 20 70)) (turned 7)
    × (proc_count (turned 7).head ≡ 6)
    × (marker_steps (turned 7).head ≡ 7)
    × Comes begun (set trace 97 128) (Err (refusal 20 90)) (turned 9)
    × Comes begun (set trace 4 1) (Err (refusal 20 0)) begun
    × Comes (turned 7) trace (Err (refusal 20 0)) (turned 7)

-- Traces 4: the third record left out; cut to 95 bytes; another kind and another length, late; a cut before a gap; tables that break a rule, and an image that is refused, before all of them
abbrev pub TraceRefused : Type 0
TraceRefused =
    Comes begun (take 20 trace ++ drop 30 trace) (Err (refusal 19 20)) begun
    × Comes begun (take 95 trace) (Err (refusal 2 90)) begun
    × Comes begun (set trace 182 34) (Err (refusal 3 180)) begun
    × Comes begun (set (set trace 188 0) 180 9) (Err (refusal 4 180)) begun
    × Comes begun (take 20 trace ++ take 75 (drop 30 trace)) (Err (refusal 2 90)) begun
    × ((replay_call tiny asked (lent (zeros 10) begun.procs begun.vars) (take 95 trace)).answer ≡ Err (refusal 8 0))
    × ((replay_call tiny (drop 1 asked) begun (take 95 trace)).answer ≡ Err (refusal 2 0))
