-- A trace as facts over its bytes: its tests a second time, and what a trace looks like that passes them.
use Rattle.std.specs.Prelude.{◌≡◌, ℕ, suc, ◌*◌, ◌<◌, ◌≢◌, List, length}
use Rattle.parlog.specs.Records.{kind_at, word_at}
use Rattle.saved.specs.Formed.{WholeAt}
use Rattle.trace.specs.Trace.{following, stamp_at, step_kind, supply_kind, trace_size}

-- ---- records

-- Traces 1: of a step or of a supply
pub data KnownKind (kind : ℕ) : Type 0 where
  of_step : kind ≡ step_kind → KnownKind kind
  of_supply : kind ≡ supply_kind → KnownKind kind

-- Traces 4: whole, of a known kind, and as long as each is
pub record RightRecord (x : List ℕ) (at : ℕ) : Type 0 where
  pub whole : WholeAt x at
  pub kind : KnownKind (kind_at x at)
  pub size : word_at x at ≡ trace_size

-- Traces 4: all records before record k are so
abbrev pub RightTo : List ℕ → ℕ → Type 0
RightTo x k = (i : ℕ) → i < k → RightRecord x (i * trace_size)

-- Traces 1: n records, and nothing else
pub record Filled (x : List ℕ) (n : ℕ) : Type 0 where
  pub size : length x ≡ n * trace_size
  pub each : RightTo x n

-- Traces 2: the stamp of the record behind record k is the next one
abbrev pub Follows : List ℕ → ℕ → Type 0
Follows x k = stamp_at x (suc k * trace_size) ≡ following (stamp_at x (k * trace_size))

-- ---- a whole trace

-- Traces 4: the number, and where the record begins: the first that is not right, or, where all are, the first with a gap before it
pub data BadTrace (x : List ℕ) : ℕ → ℕ → Type 0 where
  trace_cut : {k : ℕ} → RightTo x k → k * trace_size < length x → (WholeAt x (k * trace_size) → ⊥) → BadTrace x 2 (k * trace_size)
  trace_kind : {k : ℕ} → RightTo x k → k * trace_size < length x → WholeAt x (k * trace_size) → (KnownKind (kind_at x (k * trace_size)) → ⊥) → BadTrace x 3 (k * trace_size)
  trace_body : {k : ℕ} → RightTo x k → k * trace_size < length x → WholeAt x (k * trace_size) → KnownKind (kind_at x (k * trace_size)) → word_at x (k * trace_size) ≢ trace_size
      → BadTrace x 4 (k * trace_size)
  trace_gap : {n k : ℕ} → Filled x n → suc k < n → ((i : ℕ) → i < k → Follows x i) → (Follows x k → ⊥) → BadTrace x 19 (suc k * trace_size)

-- Traces 1, 2: n records whose stamps follow one another
pub record RightTrace (x : List ℕ) (n : ℕ) : Type 0 where
  pub filled : Filled x n
  pub follow : (i : ℕ) → suc i < n → Follows x i
