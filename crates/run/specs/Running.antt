-- What a run promises: its answer, and each table afterwards, byte for byte; and what its parts do.
use Rattle.parlog.specs.declared.Move.{Move}
use Rattle.parlog.specs.Answer.{Answer}
use Rattle.std.specs.Prelude.{◌≡◌, Bool, false, true, List, ◌*◌, ◌-◌, ◌<◌, ◌≤◌, ℕ, length, Option, Ok, Some, None}
use Rattle.children.specs.Telling.{Tells}
use Rattle.entry.specs.Entered.{Inside}
use Rattle.parlog.specs.Calls.{run_call, step_answer, turn_call}
use Rattle.parlog.specs.Limits.{Limits}
use Rattle.parlog.specs.Program.{Program, program_of}
use Rattle.parlog.specs.Run.{goal_ended, goal_result, run_from, run_tables, turn_for, turn_tables}
use Rattle.parlog.specs.Tables.{cell_size, head_size, Lent, marker_last, proc_count, procs_of, put_tables, row_size, tables_in, var_count}
use Rattle.parlog.specs.declared.End.{End}
use Rattle.parlog.specs.declared.End.TheVariants.{Waiting}
use Rattle.run.specs.declared.View.{View}
use Rattle.tree.specs.Family.{Falls}
use Rattle.turn_search.specs.declared.Turn.{Turn}

-- ---- a turn

-- what the search for whose turn it is may count on
pub record Turning (lim : Limits) (h p v : List ℕ) : Type 0 where
  pub head : head_size ≤ length h
  pub rows : proc_count h * row_size ≤ length p
  pub procs_most : proc_count h ≤ lim.procs
  pub cells : var_count h * cell_size ≤ length v
  pub falls : Falls (procs_of p (proc_count h))
  pub last : marker_last h < proc_count h

-- Turns 2: whose turn it is, whatever the program, and what its children report
pub record WhoseSays (l : Lent) (t : Turn) : Type 0 where
  pub who : (pr : Program) → t.who ≡ turn_for pr (tables_in l)
  pub told : (p : ℕ) → t.who ≡ Some p → Tells (procs_of l.procs (proc_count l.head)) p t.told

-- Turns 2: the turn in tables that keep the rules
pub record TurnedIn (lim : Limits) (s : List ℕ) (r c : ℕ) (l : Lent) (a : Answer Move) (h p v : List ℕ) : Type 0 where
  pub answer : a ≡ (step_answer (turn_tables lim (program_of s r c) (tables_in l)) l).answer
  pub head : h ≡ (step_answer (turn_tables lim (program_of s r c) (tables_in l)) l).lent.head
  pub procs : p ≡ (step_answer (turn_tables lim (program_of s r c) (tables_in l)) l).lent.procs
  pub vars : v ≡ (step_answer (turn_tables lim (program_of s r c) (tables_in l)) l).lent.vars

-- ---- the loop

-- nobody's turn once the goal has ended
abbrev pub unless_ended : Bool → Option ℕ → Option ℕ
unless_ended true f = None
unless_ended false f = f

-- the end where it is nobody's turn
abbrev pub still_end : Bool → End → End
still_end true e = e
still_end false e = Waiting

-- Turns 7: the tests before a step, whatever the program
pub record LookSays (l : Lent) (w : View) : Type 0 where
  pub who : (pr : Program) → w.who ≡ unless_ended (goal_ended (tables_in l)) (turn_for pr (tables_in l))
  pub end : w.end ≡ still_end (goal_ended (tables_in l)) (goal_result (tables_in l))
  pub told : (p : ℕ) → w.who ≡ Some p → Tells (procs_of l.procs (proc_count l.head)) p w.told

-- the bytes of one lend hold more of the same tables
pub record Grown (l l' : Lent) : Type 0 where
  pub head : l'.head ≡ (put_tables l (tables_in l')).head
  pub procs : l'.procs ≡ (put_tables l (tables_in l')).procs
  pub vars : l'.vars ≡ (put_tables l (tables_in l')).vars
  pub more_procs : proc_count l.head ≤ proc_count l'.head
  pub more_vars : var_count l.head ≤ var_count l'.head

-- k moves of the run are made: what is left gives what the whole gives
pub record Going (lim : Limits) (s : List ℕ) (r c : ℕ) (l₀ l : Lent) (limit k : ℕ) : Type 0 where
  pub inside : Inside lim s r c l
  pub most : k ≤ limit
  pub rest : run_from limit lim (program_of s r c) 0 (tables_in l₀) ≡ run_from (limit - k) lim (program_of s r c) k (tables_in l)
  pub holds : Grown l₀ l

-- Turns 7, 8: a run in good tables
pub record RanSays (lim : Limits) (s : List ℕ) (r c : ℕ) (l : Lent) (limit : ℕ) (a : Answer (End × ℕ)) (l' : Lent) : Type 0 where
  pub answer : a ≡ Ok ((run_tables limit lim (program_of s r c) (tables_in l)).end, (run_tables limit lim (program_of s r c) (tables_in l)).moves)
  pub head : l'.head ≡ (put_tables l (run_tables limit lim (program_of s r c) (tables_in l)).tables).head
  pub procs : l'.procs ≡ (put_tables l (run_tables limit lim (program_of s r c) (tables_in l)).tables).procs
  pub vars : l'.vars ≡ (put_tables l (run_tables limit lim (program_of s r c) (tables_in l)).tables).vars

-- ---- the calls

-- Turns 2, Refusals 23: the turn
pub record TurnSays (lim : Limits) (s : List ℕ) (l : Lent) (a : Answer Move) (h p v : List ℕ) : Type 0 where
  pub answer : a ≡ (turn_call lim s l).answer
  pub head : h ≡ (turn_call lim s l).lent.head
  pub procs : p ≡ (turn_call lim s l).lent.procs
  pub vars : v ≡ (turn_call lim s l).lent.vars

-- Turns 7, 8, Refusals 23: the run
pub record RunSays (lim : Limits) (s : List ℕ) (l : Lent) (limit : ℕ) (a : Answer (End × ℕ)) (h p v : List ℕ) : Type 0 where
  pub answer : a ≡ (run_call lim s l limit).answer
  pub head : h ≡ (run_call lim s l limit).lent.head
  pub procs : p ≡ (run_call lim s l limit).lent.procs
  pub vars : v ≡ (run_call lim s l limit).lent.vars
