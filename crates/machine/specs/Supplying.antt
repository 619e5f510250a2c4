-- What a supply promises: its answer, and each table afterwards, byte for byte.
use Rattle.parlog.specs.Answer.{Answer}
use Rattle.std.specs.Prelude.{◌≡◌, Bool, cond, false, true, List, ◌*◌, ◌<◌, ◌≤◌, ℕ, leb, ltb, length, Option, Ok, Err}
use Rattle.parlog.specs.Calls.{SupplyCall, supply_call}
use Rattle.parlog.specs.Limits.{Limits}
use Rattle.parlog.specs.Load.{refusal}
use Rattle.parlog.specs.Program.{Program}
use Rattle.parlog.specs.Run.{supplied}
use Rattle.parlog.specs.Scan.{every}
use Rattle.parlog.specs.TableRules.{cell_known}
use Rattle.parlog.specs.Tables.{cell_size, head_size, Lent, proc_count, put_tables, row_size, tables_in, var_count}
use Rattle.parlog.specs.Unify.{value}
use Rattle.parlog.specs.declared.Term.{Term}
use Rattle.parlog.specs.declared.Term.TheVariants.{Const, Var}

-- a value that is known
abbrev pub is_const : Term → Bool
is_const (Const k) = true
is_const (Var v) = false

-- Turns 6, Refusals 13: by the value of the variable
abbrev pub given_by : Term → Answer ℕ
given_by (Const k) = Err (refusal 13 0)
given_by (Var w) = Ok w

-- Refusals 12, 14: the answer alone
unfoldable pub asked_of : Program → List (Option Term) → ℕ → ℕ → Answer ℕ
asked_of pr vs v c = cond (ltb v pr.goal_vars) (cond (leb c 32767) (given_by (value vs (Var v))) (Err (refusal 14 0))) (Err (refusal 12 0))

-- an answer read as the whole call
abbrev pub supply_of : Answer ℕ → Lent → ℕ → SupplyCall
supply_of (Err r) l c = record { answer = Err r; lent = l }
supply_of (Ok w) l c = record { answer = Ok w; lent = put_tables l (supplied (tables_in l) w c) }

-- what the writing of it may count on
pub record Writes (l : Lent) (w c : ℕ) : Type 0 where
  pub row : w < var_count l.head
  pub constant : c ≤ 32767
  pub head : length l.head ≡ head_size
  pub rows : proc_count l.head * row_size ≤ length l.procs
  pub cells : var_count l.head * cell_size ≤ length l.vars
  pub cells_known : every (cell_known l.vars) (var_count l.head) ≡ true

-- that, where there is something to write
abbrev pub WritesOf : Answer ℕ → Lent → ℕ → Type 0
WritesOf (Err r) l c = Unit {0}
WritesOf (Ok w) l c = Writes l w c

-- Refusals 22: what is decided before anything is written
pub record DecidedSays (lim : Limits) (s : List ℕ) (l : Lent) (v c : ℕ) (a : Answer ℕ) : Type 0 where
  pub call : supply_call lim s l v c ≡ supply_of a l c
  pub writes : WritesOf a l c

-- Turns 6, Refusals 23: the whole call
pub record SupplySays (lim : Limits) (s : List ℕ) (l : Lent) (v c : ℕ) (r : Answer ℕ) (h p w : List ℕ) : Type 0 where
  pub answer : r ≡ (supply_call lim s l v c).answer
  pub head : h ≡ (supply_call lim s l v c).lent.head
  pub procs : p ≡ (supply_call lim s l v c).lent.procs
  pub vars : w ≡ (supply_call lim s l v c).lent.vars
