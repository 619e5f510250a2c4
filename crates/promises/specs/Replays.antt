-- A replay in the words of docs/MACHINE.md: when a record agrees, why a replay is refused, and what it leaves.
-- ---- records that agree
use Rattle.std.specs.Prelude.{◌≡◌, ◌≢◌, List, ◌*◌, ◌<◌, ◌≤◌, suc, ℕ}
use Rattle.parlog.specs.Limits.{Limits}
use Rattle.parlog.specs.Notions.{Leads}
use Rattle.parlog.specs.Numbers.{rule_number}
use Rattle.parlog.specs.Program.{Program, program_of}
use Rattle.parlog.specs.Records.{kind_at}
use Rattle.parlog.specs.Relation.{Fits, Rule}
use Rattle.parlog.specs.Run.{supplied}
use Rattle.parlog.specs.Tables.{Lent, State, Tables, tables_in}
use Rattle.parlog.specs.declared.Move.{Move}
use Rattle.parlog.specs.declared.Term.TheVariants.{Var}
use Rattle.promises.specs.Moves.{after_step, Holds}
use Rattle.promises.specs.Outcomes.{large_in, refusal_in}
use Rattle.promises.specs.Refusals.{LetIn, RefusesBy, TurnedAway}
use Rattle.trace.specs.Formed.{BadTrace, RightTrace}
use Rattle.trace.specs.Trace.{step_kind, supply_kind, trace_size, what_at, who_at}
use Rattle.words.specs.Nights.{told_offset}

-- Traces 5: the record at this place agrees with the tables t and leaves others: a rule of its number moves its process, with room, or the value of its variable is bound
pub data Agrees (lim : Limits) (pr : Program) (x : List ℕ) (at : ℕ) (t : Tables) : Tables → Type 0 where
  step_agrees : {m : Move} {s' : State} → kind_at x at ≡ step_kind → Rule pr t.state (who_at x at) m s' → Fits lim s' → rule_number m ≡ what_at x at
      → Agrees lim pr x at t (after_step t (who_at x at) s')
  supply_agrees : {u : ℕ} → kind_at x at ≡ supply_kind → who_at x at < pr.goal_vars → what_at x at ≤ 32767 → Leads t.state.vars (Var (who_at x at)) (Var u)
      → Agrees lim pr x at t (supplied t u (what_at x at))

-- Traces 6: the first k records agree, each with the tables that the one before it left
pub data AgreeTo (lim : Limits) (pr : Program) (x : List ℕ) (t : Tables) : ℕ → Tables → Type 0 where
  none_yet : AgreeTo lim pr x t 0 t
  one_more : {k : ℕ} {u v : Tables} → AgreeTo lim pr x t k u → Agrees lim pr x (k * trace_size) u v → AgreeTo lim pr x t (suc k) v

-- Traces 7: of n records the first k agree, and the next does not agree with the tables that they leave
pub record StopsAt (lim : Limits) (pr : Program) (x : List ℕ) (t : Tables) (n k : ℕ) (u : Tables) : Type 0 where
  pub right : RightTrace x n
  pub below : k < n
  pub before : AgreeTo lim pr x t k u
  pub next_not : (v : Tables) → Agrees lim pr x (k * trace_size) u v → ⊥

-- ---- demand 1

-- Traces 4, 7, 8: a replay of the trace x
pub data ReplayRefused (lim : Limits) (s : List ℕ) (l : Lent) (x : List ℕ) : ℕ → ℕ → Type 0 where
  replay_away : {n o : ℕ} → TurnedAway lim s l n o → ReplayRefused lim s l x n o
  replay_record : {r c n o : ℕ} → LetIn lim s l r c → BadTrace x n o → ReplayRefused lim s l x n (told_offset o)
  one_disagrees : {r c n k : ℕ} {u : Tables} → LetIn lim s l r c → StopsAt lim (program_of s r c) x (tables_in l) n k u → ReplayRefused lim s l x 20 (told_offset (k * trace_size))

-- Traces 7: what 20 leaves: the tables that the records before it made
pub record LeftOff (lim : Limits) (s : List ℕ) (l : Lent) (x : List ℕ) (w : ℕ) (l' : Lent) : Type 0 where
  pub relations : ℕ
  pub clauses : ℕ
  pub enters : LetIn lim s l relations clauses
  pub records : ℕ
  pub played : ℕ
  pub after : Tables
  pub stops : StopsAt lim (program_of s relations clauses) x (tables_in l) records played after
  pub told : large_in w ≡ told_offset (played * trace_size)
  pub tables : Holds l after l'

-- Traces 7: refused exactly where there is a reason; each refusal but 20 leaves every lent byte as it was
pub record RefusesReplay (lim : Limits) (s : List ℕ) (l : Lent) (x : List ℕ) (w : ℕ) (l' : Lent) : Type 0 where
  pub by : RefusesBy 20 (ReplayRefused lim s l x) w
  pub kept : refusal_in w ≢ 0 → refusal_in w ≢ 20 → l' ≡ l
  pub left : refusal_in w ≡ 20 → LeftOff lim s l x w l'

-- ---- demand 2

-- Traces 6: all n records agree; their number is told, and the tables are those that they make
pub record ReplaysAll (lim : Limits) (s : List ℕ) (l : Lent) (x : List ℕ) (w : ℕ) (l' : Lent) : Type 0 where
  pub relations : ℕ
  pub clauses : ℕ
  pub enters : LetIn lim s l relations clauses
  pub records : ℕ
  pub right : RightTrace x records
  pub after : Tables
  pub agree : AgreeTo lim (program_of s relations clauses) x (tables_in l) records after
  pub told : large_in w ≡ told_offset records
  pub tables : Holds l after l'

-- Traces 6, 7: accepted exactly where every record of a right trace agrees, and 20 exactly where one does not, each with its tables
pub record ReplayExact (lim : Limits) (s : List ℕ) (l : Lent) (x : List ℕ) (w : ℕ) (l' : Lent) : Type 0 where
  pub accepted : refusal_in w ≡ 0 → ReplaysAll lim s l x w l'
  pub all_agree : {r c n : ℕ} {u : Tables} → LetIn lim s l r c → RightTrace x n → AgreeTo lim (program_of s r c) x (tables_in l) n u → refusal_in w ≡ 0
  pub stopped : refusal_in w ≡ 20 → LeftOff lim s l x w l'
  pub one_not : {r c n k : ℕ} {u : Tables} → LetIn lim s l r c → StopsAt lim (program_of s r c) x (tables_in l) n k u → (refusal_in w ≡ 20) × (large_in w ≡ told_offset (k * trace_size))
