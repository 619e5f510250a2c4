-- What a step promises: its answer, and each table afterwards, byte for byte.
use Rattle.parlog.specs.declared.Move.{Move}
use Rattle.parlog.specs.Answer.{Answer}
use Rattle.std.specs.Prelude.{◌≡◌, List, ◌*◌, ◌+◌, ◌<◌, ◌≤◌, ℕ, length, Ok, Err}
use Rattle.entry.specs.Entered.{Inside}
use Rattle.move_plan.specs.Plans.{delta_of, new_most, Within}
use Rattle.move_plan.specs.declared.Plan.{Plan}
use Rattle.parlog.specs.Calls.{step_answer, step_call}
use Rattle.parlog.specs.Delta.{apply}
use Rattle.parlog.specs.Limits.{Limits}
use Rattle.parlog.specs.Load.{refusal}
use Rattle.parlog.specs.declared.Refusal.{Refusal}
use Rattle.parlog.specs.Program.{program_of}
use Rattle.parlog.specs.Rules.{by_rule, rule_of}
use Rattle.parlog.specs.Run.{counted, made, stepped, Stepping, step_tables, unmade}
use Rattle.parlog.specs.Tables.{cell_size, head_bytes, head_size, Lent, lent, marker_steps, proc_count, procs_of, row_size, Tables, tables_in, var_count}
use Rattle.rows.specs.Rows.{Bytes, Table}
use Rattle.tree.specs.Family.{Falls, most_rows}
use Rattle.vars.specs.Cells.{Cells}

-- the step that good tables call for
abbrev pub step_in : Limits → List ℕ → ℕ → ℕ → Lent → ℕ → Stepping
step_in lim s r c l p = step_tables lim (program_of s r c) (tables_in l) p

-- the tables that it leaves: its own, or those that were there
abbrev pub tables_after : Stepping → Tables → Tables
tables_after (unmade k) t = t
tables_after (made m t') t = t'

-- what a decision makes of a step: refused with its number, or made by its plan
abbrev pub step_of : Answer Plan → Tables → ℕ → Stepping
step_of (Err f) t p = unmade f.number
step_of (Ok pl) t p = made pl.mv (stepped t p (delta_of pl))

-- what the writing of a plan may count on: its counts fit the lent rows and the limits
pub record Carries (lim : Limits) (l : Lent) (p : ℕ) (pl : Plan) : Type 0 where
  pub head : length l.head ≡ head_size
  pub mover : p < proc_count l.head
  pub falls : Falls (procs_of l.procs (proc_count l.head))
  pub marks : proc_count l.head ≤ most_rows
  pub rows : (proc_count l.head + pl.count) * row_size ≤ length l.procs
  pub cells : (var_count l.head + pl.fresh) * cell_size ≤ length l.vars
  pub few_procs : proc_count l.head + pl.count ≤ lim.procs
  pub few-vars : var_count l.head + pl.fresh ≤ lim.vars
  pub new : pl.count ≤ new_most
  pub within : Within (var_count l.head) pl.changes.count pl.changes.list

-- Refusals 10, 11: what is decided before a step is made: what refuses it, with no offset; where nothing does, the rule that applies and a plan that can be written
pub record PlannedSays (lim : Limits) (s : List ℕ) (r c : ℕ) (l : Lent) (p : ℕ) (d : Answer Plan) : Type 0 where
  pub step : step_in lim s r c l p ≡ step_of d (tables_in l) p
  pub plain : {f : Refusal} → d ≡ Err f → f ≡ refusal f.number 0
  pub rule : {pl : Plan} → d ≡ Ok pl → rule_of (program_of s r c) (tables_in l).state p ≡ by_rule pl.mv (delta_of pl)
  pub carries : {pl : Plan} → d ≡ Ok pl → Carries lim l p pl

-- Turns 3: the bytes that the writing of a plan leaves
pub record CarriedOut (l : Lent) (p : ℕ) (pl : Plan) (h ps vs : List ℕ) : Type 0 where
  pub head : h ≡ head_bytes (proc_count l.head + pl.count) (var_count l.head + pl.fresh) p (counted (marker_steps l.head))
  pub procs : Table l.procs ps (apply (tables_in l).state p (delta_of pl)).procs
  pub vars : Cells (var_count l.head) l.vars vs (apply (tables_in l).state p (delta_of pl)).vars
  pub procs_bytes : Bytes ps
  pub vars_bytes : Bytes vs

-- Turns 3, Tables 4, Refusals 10, 11, 23: the step in tables that keep the rules; they keep them afterwards, and no count shrinks
pub record SteppedSays (lim : Limits) (s : List ℕ) (r c : ℕ) (l : Lent) (p : ℕ) (a : Answer Move) (h ps vs : List ℕ) : Type 0 where
  pub answer : a ≡ (step_answer (step_in lim s r c l p) l).answer
  pub head : h ≡ (step_answer (step_in lim s r c l p) l).lent.head
  pub procs : ps ≡ (step_answer (step_in lim s r c l p) l).lent.procs
  pub vars : vs ≡ (step_answer (step_in lim s r c l p) l).lent.vars
  pub inside : Inside lim s r c (lent h ps vs)
  pub tables : tables_in (lent h ps vs) ≡ tables_after (step_in lim s r c l p) (tables_in l)
  pub more_procs : proc_count l.head ≤ proc_count h
  pub more_vars : var_count l.head ≤ var_count h

-- Refusals 9, 20 to 23: the whole call
pub record StepSays (lim : Limits) (s : List ℕ) (l : Lent) (p : ℕ) (a : Answer Move) (h ps vs : List ℕ) : Type 0 where
  pub answer : a ≡ (step_call lim s l p).answer
  pub head : h ≡ (step_call lim s l p).lent.head
  pub procs : ps ≡ (step_call lim s l p).lent.procs
  pub vars : vs ≡ (step_call lim s l p).lent.vars
