-- What the first tests of a call come to, and what holds of the bytes once they are passed.
use Rattle.parlog.specs.Answer.{Answer}
use Rattle.std.specs.Prelude.{◌≡◌, true, List, ◌*◌, ◌<◌, ◌≤◌, ℕ, length, Err, Ok}
use Rattle.parlog.specs.Calls.{enter, entered, Entry, turned_away}
use Rattle.parlog.specs.Limits.{Limits}
use Rattle.parlog.specs.Load.{load_of}
use Rattle.parlog.specs.Program.{program_of}
use Rattle.parlog.specs.Scan.{every}
use Rattle.parlog.specs.TableRules.{cell_known, lent_ok}
use Rattle.parlog.specs.Tables.{cell_size, head_size, Lent, marker_last, proc_count, row_size, tables_in, var_count}

-- what a call that was let in may count on
pub record Inside (lim : Limits) (s : List ℕ) (r c : ℕ) (l : Lent) : Type 0 where
  pub loaded : load_of s ≡ Ok (r, c)
  pub good : lent_ok lim (program_of s r c) l ≡ true
  pub relations : r ≤ 32
  pub clauses : c ≤ 64
  pub head : length l.head ≡ head_size
  pub procs_size : length l.procs ≡ lim.procs * row_size
  pub vars_size : length l.vars ≡ lim.vars * cell_size
  pub some : 1 ≤ proc_count l.head
  pub procs_most : proc_count l.head ≤ lim.procs
  pub vars_most : var_count l.head ≤ lim.vars
  pub last : marker_last l.head < proc_count l.head
  pub rows : proc_count l.head * row_size ≤ length l.procs
  pub cells : var_count l.head * cell_size ≤ length l.vars
  pub goal : (program_of s r c).goal_vars ≤ var_count l.head
  pub cells_known : every (cell_known l.vars) (var_count l.head) ≡ true

-- an answer of a load read as an entry
abbrev pub entry_of : Answer (ℕ × ℕ) → List ℕ → Lent → Entry
entry_of (Err r) s l = turned_away r
entry_of (Ok (r, c)) s l = entered (program_of s r c) (tables_in l)

-- these facts, where it was let in
abbrev pub InsideOf : Answer (ℕ × ℕ) → Limits → List ℕ → Lent → Type 0
InsideOf (Err r) lim s l = Unit {0}
InsideOf (Ok (r, c)) lim s l = Inside lim s r c l

-- Refusals 20, 21: the refusal of the image or of the tables, else the counts
pub record EnterSays (lim : Limits) (s : List ℕ) (l : Lent) (e : Answer (ℕ × ℕ)) : Type 0 where
  pub entry : enter lim s l ≡ entry_of e s l
  pub inside : InsideOf e lim s l
