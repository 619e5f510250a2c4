-- Traces: a record for each step and each supply, its stamp, and the tests of a whole trace.
use Rattle.parlog.specs.Answer.{Answer}
use Rattle.std.specs.Prelude.{◌≡◌, ℕ, zero, suc, ◌+◌, ◌*◌, ◌/◌, ◌%◌, Bool, true, false, not, ◌||◌, List, ◌++◌, length, ◌==◌, Option, Some, None, Err, Ok}
use Rattle.lay.specs.Lay.{two}
use Rattle.parlog.specs.Load.{refusal}
use Rattle.parlog.specs.Records.{cut, kind_at, word_at}
use Rattle.parlog.specs.Scan.{lowest}

-- ---- records

-- Traces 1: the kind of a step's record
abbrev pub step_kind : ℕ
step_kind = 32

-- Traces 1: the kind of a supply's record
abbrev pub supply_kind : ℕ
supply_kind = 33

-- Traces 1: the length of a record; record k begins at k times this
abbrev pub trace_size : ℕ
trace_size = 10

-- Traces 1: the process or the variable of the record at this place
abbrev pub who_at : List ℕ → ℕ → ℕ
who_at s at = word_at s (at + 4)

-- Traces 1: its rule or its value
abbrev pub what_at : List ℕ → ℕ → ℕ
what_at s at = word_at s (at + 6)

-- Traces 1: its stamp
abbrev pub stamp_at : List ℕ → ℕ → ℕ
stamp_at s at = word_at s (at + 8)

-- Traces 1: a record as bytes
unfoldable pub record_bytes : ℕ → ℕ → ℕ → ℕ → List ℕ
record_bytes kind who what stamp = two trace_size ++ two kind ++ two who ++ two what ++ two stamp

-- ---- stamps

-- Traces 2: the stamp behind this one: 0 behind 65,535
abbrev pub following : ℕ → ℕ
following stamp = (stamp + 1) % 65536

-- Traces 3: a stamp that is not the one behind the stamp before
abbrev pub is_gap : ℕ → ℕ → Bool
is_gap before stamp = not (stamp == following before)

-- Traces 3: of record k: the first has no record before it
abbrev pub gap_at : List ℕ → ℕ → Bool
gap_at s zero = false
gap_at s (suc k) = is_gap (stamp_at s (k * trace_size)) (stamp_at s (suc k * trace_size))

-- Traces 3: the first of n records with a gap before it
unfoldable pub first_gap : List ℕ → ℕ → Option ℕ
first_gap s n = lowest (gap_at s) n

-- ---- the tests of a trace

-- Traces 4: the kinds that a trace has
abbrev pub known_kind : ℕ → Bool
known_kind kind = kind == step_kind || kind == supply_kind

-- a test fails with its number, else the next tests decide
abbrev pub fail_if : Bool → ℕ → ℕ → ℕ
fail_if true n rest = n
fail_if false n rest = rest

-- Traces 4: the first of the tests 2, 3, 4 that the record at this place fails, 0 where it fails none
unfoldable pub record_fault : List ℕ → ℕ → ℕ
record_fault s at = fail_if (cut s at) 2 (fail_if (not (known_kind (kind_at s at))) 3 (fail_if (not (word_at s at == trace_size)) 4 0))

-- Traces 4: of record k, where those before it fail none and so are of one length
abbrev pub faulty : List ℕ → ℕ → Bool
faulty s k = not (record_fault s (k * trace_size) == 0)

-- Traces 4: how many records these bytes would have, one that is cut at the end counted too
abbrev pub records_in : List ℕ → ℕ
records_in s = (length s + 9) / trace_size

-- Traces 4: the first record that fails a test
unfoldable pub first_fault : List ℕ → Option ℕ
first_fault s = lowest (faulty s) (records_in s)

-- Traces 4: then 19, and its place
abbrev pub tested_gap : Option ℕ → List ℕ → Answer ℕ
tested_gap (Some k) s = Err (refusal 19 (k * trace_size))
tested_gap None s = Ok (records_in s)

-- Traces 4: 2, 3 or 4 first, over the whole trace, and its place
abbrev pub tested_fault : Option ℕ → List ℕ → Answer ℕ
tested_fault (Some k) s = Err (refusal (record_fault s (k * trace_size)) (k * trace_size))
tested_fault None s = tested_gap (first_gap s (records_in s)) s

-- Traces 4: what the tests of a trace come to
unfoldable pub trace_tested : List ℕ → Answer ℕ
trace_tested s = tested_fault (first_fault s) s

-- ---- contracts

-- the records of these bytes fill them
abbrev pub Fills : List ℕ → Answer ℕ → Type 0
Fills s (Err r) = Unit {0}
Fills s (Ok n) = n * trace_size ≡ length s

-- the tests 2, 3 and 4 alone
abbrev pub fault_tested : Option ℕ → List ℕ → Answer ℕ
fault_tested (Some k) s = Err (refusal (record_fault s (k * trace_size)) (k * trace_size))
fault_tested None s = Ok (records_in s)

pub record FaultsSay (s : List ℕ) (t : Answer ℕ) : Type 0 where
  pub tests : t ≡ fault_tested (first_fault s) s
  pub fills : Fills s t

-- all tests, and that the records fill the bytes where nothing is wrong
pub record TestedSays (s : List ℕ) (t : Answer ℕ) : Type 0 where
  pub tests : t ≡ trace_tested s
  pub fills : Fills s t
