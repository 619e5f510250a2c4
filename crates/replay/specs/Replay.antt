-- A replay: what playing a record comes to, and all records one after the other.
use Rattle.parlog.specs.Answer.{Answer}
use Rattle.std.specs.Prelude.{◌≡◌, Bool, cond, false, true, List, ◌*◌, ◌-◌, ◌≤◌, suc, zero, ℕ, eqb, Err, Ok}
use Rattle.entry.specs.Entered.{Inside}
use Rattle.parlog.specs.Calls.{enter, entered, Entry, turned_away}
use Rattle.parlog.specs.Limits.{Limits}
use Rattle.parlog.specs.Load.{refusal}
use Rattle.parlog.specs.Numbers.{Numbers, refused_as, rule_number}
use Rattle.parlog.specs.Program.{Program, program_of}
use Rattle.parlog.specs.Records.{kind_at}
use Rattle.parlog.specs.Run.{given, made, Stepping, step_tables, Supplying, supply_tables, ungiven, unmade}
use Rattle.parlog.specs.Tables.{Lent, put_tables, Tables, tables_in}
use Rattle.run.specs.Running.{Grown}
use Rattle.trace.specs.Trace.{step_kind, trace_size, trace_tested, what_at, who_at}
use Rattle.words.specs.Nights.{told_offset, told_refusal}

-- ---- one record

-- a record disagrees, or leaves these tables
pub data Playing : Type 0 where
  disagrees : Playing
  plays : Tables → Playing

-- Traces 5: a step agrees where it is made and its rule is the record's
abbrev pub play_step : Stepping → ℕ → Playing
play_step (unmade k) rule = disagrees
play_step (made m t) rule = cond (eqb (rule_number m) rule) (plays t) disagrees

-- Traces 5: a supply agrees where it is made
abbrev pub play_supply : Supplying → Playing
play_supply (ungiven k) = disagrees
play_supply (given v t) = plays t

-- Traces 5: the record at this place, on these tables
unfoldable pub play_record : Limits → Program → List ℕ → ℕ → Tables → Playing
play_record lim pr s at t =
    cond (eqb (kind_at s at) step_kind)
    (play_step (step_tables lim pr t (who_at s at)) (what_at s at))
    (play_supply (supply_tables pr t (who_at s at) (what_at s at)))

-- ---- all records

-- how many records were played, and the tables after them
pub record Played : Type 0 where
  pub records : ℕ
  pub tables : Tables

-- Traces 6: a record that disagrees leaves the tables of those before it, one that agrees is gone on from
abbrev pub play_on : Playing → ℕ → Tables → (Tables → Played) → Played
play_on disagrees k t go = record { records = k; tables = t }
play_on (plays t') k t go = go t'

-- Traces 6: k records are played, n are left
unfoldable pub play_from : ℕ → Limits → Program → List ℕ → ℕ → Tables → Played
play_from zero lim pr s k t = record { records = k; tables = t }
play_from (suc n) lim pr s k t = play_on (play_record lim pr s (k * trace_size) t) k t (λ t'. play_from n lim pr s (suc k) t')

-- ---- the call

-- what a replay answers and leaves
pub record ReplayCall : Type 0 where
  pub answer : Answer ℕ
  pub lent : Lent

-- Traces 6, 7: all n records agree, or 20 with the place of the one that does not
abbrev pub replay_told : Bool → ℕ → Answer ℕ
replay_told true k = Ok k
replay_told false k = Err (refusal 20 (k * trace_size))

-- Traces 6: the answer, and the tables
abbrev pub replay_answer : Played → ℕ → Lent → ReplayCall
replay_answer p n l = record { answer = replay_told (eqb p.records n) p.records; lent = put_tables l p.tables }

-- Traces 4: the whole trace is tested first
abbrev pub replay_tested : Answer ℕ → Limits → Program → List ℕ → Lent → ReplayCall
replay_tested (Err r) lim pr s l = record { answer = Err r; lent = l }
replay_tested (Ok n) lim pr s l = replay_answer (play_from n lim pr s 0 (tables_in l)) n l

-- Traces 4: and before it the image and the tables
abbrev pub replay_entry : Entry → Limits → List ℕ → Lent → ReplayCall
replay_entry (turned_away r) lim s l = record { answer = Err r; lent = l }
replay_entry (entered pr t) lim s l = replay_tested (trace_tested s) lim pr s l

-- Traces 6: the replay of the trace s on the image and these tables
unfoldable pub replay_call : Limits → List ℕ → Lent → List ℕ → ReplayCall
replay_call lim image l s = replay_entry (enter lim image l) lim s l

-- Traces 6, 7, 8: the numbers of its answer: how many records were played, or the refusal and its place
abbrev pub replay_numbers : Answer ℕ → Numbers
replay_numbers (Ok n) = record { refused = 0; a = 0; b = 0; c = told_offset n }
replay_numbers (Err r) = refused_as (told_refusal r)

-- ---- contracts

-- it agrees
abbrev pub is_played : Playing → Bool
is_played disagrees = false
is_played (plays t) = true

-- the tables that it leaves: its own, or those that were there
abbrev pub tables_played : Playing → Tables → Tables
tables_played disagrees t = t
tables_played (plays t') t = t'

-- one record played, in tables that keep the rules; they keep them afterwards
pub record PlaysSay (lim : Limits) (s : List ℕ) (r c : ℕ) (l : Lent) (p : Playing) (agrees : Bool) (l' : Lent) : Type 0 where
  pub answer : agrees ≡ is_played p
  pub tables : tables_in l' ≡ tables_played p (tables_in l)
  pub inside : Inside lim s r c l'
  pub holds : Grown l l'

-- k records are played: what is left gives what the whole gives
pub record PlayGoing (lim : Limits) (s : List ℕ) (r c : ℕ) (l₀ l : Lent) (trace : List ℕ) (n k : ℕ) : Type 0 where
  pub inside : Inside lim s r c l
  pub most : k ≤ n
  pub rest : play_from n lim (program_of s r c) trace 0 (tables_in l₀) ≡ play_from (n - k) lim (program_of s r c) trace k (tables_in l)
  pub holds : Grown l₀ l

-- Traces 6: all records played, in tables that keep the rules
pub record PlayedSays (lim : Limits) (s : List ℕ) (r c : ℕ) (l : Lent) (trace : List ℕ) (n k : ℕ) (l' : Lent) : Type 0 where
  pub count : k ≡ (play_from n lim (program_of s r c) trace 0 (tables_in l)).records
  pub head : l'.head ≡ (put_tables l (play_from n lim (program_of s r c) trace 0 (tables_in l)).tables).head
  pub procs : l'.procs ≡ (put_tables l (play_from n lim (program_of s r c) trace 0 (tables_in l)).tables).procs
  pub vars : l'.vars ≡ (put_tables l (play_from n lim (program_of s r c) trace 0 (tables_in l)).tables).vars
  pub most : k ≤ n

-- the whole call
pub record ReplaySays (lim : Limits) (s : List ℕ) (l : Lent) (trace : List ℕ) (a : Answer ℕ) (h p v : List ℕ) : Type 0 where
  pub answer : a ≡ (replay_call lim s l trace).answer
  pub head : h ≡ (replay_call lim s l trace).lent.head
  pub procs : p ≡ (replay_call lim s l trace).lent.procs
  pub vars : v ≡ (replay_call lim s l trace).lent.vars
