-- The bytes that a step leaves hold its tables, and those keep the rules.
use mathlib.Core.Path.{◌∙◌, ◌≡◌, refl, sym}
use mathlib.Core.Bool.{true}
use mathlib.Core.List.{List}
use Prim.Native.Nat.{◌+◌, ◌≤◌, ℕ}
use lib.ListN.{length}
use native.Mathlib.Omega.{arith}
use Rattle.head.proofs.Laws.{head-last, head-length, head-procs, head-steps, head-vars}
use Rattle.load.proofs.Sanity.{accepted-sane}
use Rattle.entry.proofs.Entering.{lent-inside}
use Rattle.entry.specs.Entered.{Inside}
use Rattle.parlog.proofs.Assume.{sizes-full}
use Rattle.parlog.proofs.Effects.{apply-count, apply-vars}
use Rattle.parlog.proofs.Kept.{step_keeps}
use Rattle.parlog.specs.Delta.{apply, Delta}
use Rattle.parlog.specs.Limits.{Limits}
use Rattle.parlog.specs.Program.{program_of}
use Rattle.parlog.specs.Run.{counted, made, stepped}
use Rattle.parlog.specs.Scan.{every}
use Rattle.parlog.specs.TableRules.{cell_known, full_size, lent_ok, tables_ok}
use Rattle.parlog.specs.Tables.{head_bytes, head_size, Lent, lent, marker_last, marker_steps, proc_count, procs_of, put_tables, Tables, tables_in, var_count, vars_in}
use Rattle.parlog.specs.declared.Move.{Move}
use Rattle.rows.proofs.Exact.{table-bytes}
use Rattle.rows.proofs.Tables.{procs-length, table-rows}
use Rattle.rows.specs.Rows.{Bytes, Table}
use Rattle.step.proofs.Deciding.{tables-good}
use Rattle.step.specs.Stepping.{step_in}
use Rattle.vars.proofs.Exact.{cells-bytes}
use Rattle.vars.proofs.Tables.{cells-rows, vars-length}
use Rattle.vars.specs.Cells.{Cells}

module _ (lim : Limits) (s : List ℕ) (r c : ℕ) (l : Lent) (i : Inside lim s r c l) (p : ℕ) (d : Delta) {mv : Move} (is : step_in lim s r c l p ≡ made mv (stepped (tables_in l) p d))
    (few : proc_count l.head + length d.new ≤ lim.procs) (few-vars : var_count l.head + d.fresh ≤ lim.vars)
    {h ps vs : List ℕ} (eh : h ≡ head_bytes (proc_count l.head + length d.new) (var_count l.head + d.fresh) p (counted (marker_steps l.head)))
    (tp : Table l.procs ps (apply (tables_in l).state p d).procs) (tv : Cells (var_count l.head) l.vars vs (apply (tables_in l).state p d).vars) where
  abbrev t : Tables
  t = tables_in l

  abbrev l' : Lent
  l' = lent h ps vs

  -- ---- the counts afterwards

  rows-count : length (apply t.state p d).procs ≡ proc_count l.head + length d.new
  rows-count =
      let e : length t.state.procs ≡ proc_count l.head = unfold tables_in in procs-length l.procs (proc_count l.head) in
      apply-count t.state p d ∙ rw e

  cells_count : length (apply t.state p d).vars ≡ var_count l.head + d.fresh
  cells_count =
      let e : length t.state.vars ≡ var_count l.head = unfold tables_in in vars-length l.vars (var_count l.head) in
      apply-vars t.state p d ∙ rw e

  pub procs-after : proc_count h ≡ proc_count l.head + length d.new
  procs-after = rw eh (head-procs (proc_count l.head + length d.new) (var_count l.head + d.fresh) p (counted (marker_steps l.head)))

  pub vars-after : var_count h ≡ var_count l.head + d.fresh
  vars-after = rw eh (head-vars (proc_count l.head + length d.new) (var_count l.head + d.fresh) p (counted (marker_steps l.head)))

  last-after : marker_last h ≡ p
  last-after = rw eh (head-last (proc_count l.head + length d.new) (var_count l.head + d.fresh) p (counted (marker_steps l.head)))

  steps-after : marker_steps h ≡ counted (marker_steps l.head)
  steps-after = rw eh (head-steps (proc_count l.head + length d.new) (var_count l.head + d.fresh) p (counted (marker_steps l.head)))

  length-after : length h ≡ head_size
  length-after = rw eh (head-length (proc_count l.head + length d.new) (var_count l.head + d.fresh) p (counted (marker_steps l.head)))

  -- ---- the bytes

  pub made-head : h ≡ (put_tables l (stepped t p d)).head
  unfolding put_tables stepped
  made-head = rw (rows-count, cells_count) (eh ∙ unfold tables_in in refl)

  pub made-procs : Bytes ps → ps ≡ (put_tables l (stepped t p d)).procs
  unfolding put_tables stepped
  made-procs are = table-bytes tp are (omega (arith, rows-count, few, i.procs_size))

  pub made-vars : Bytes vs → vs ≡ (put_tables l (stepped t p d)).vars
  unfolding put_tables stepped
  made-vars are = cells-bytes tv i.cells_known are (omega (arith, cells_count, few-vars, i.vars_size))

  -- ---- the tables

  rows-after : procs_of ps (proc_count h) ≡ (apply t.state p d).procs
  rows-after = table-rows (proc_count h) tp (rows-count ∙ sym procs-after)

  cells-after : vars_in vs (var_count h) ≡ (apply t.state p d).vars
  cells-after = cells-rows (var_count h) tv (cells_count ∙ sym vars-after)

  pub made-tables : tables_in l' ≡ stepped t p d
  made-tables = held ∙ sym made-is
    where
      held : tables_in l' ≡ record { state = record { procs = (apply t.state p d).procs; vars = (apply t.state p d).vars }; last = p; steps = counted (marker_steps l.head) }
      held = unfold tables_in in rw (rows-after, cells-after, last-after, steps-after)

      made-is : stepped t p d ≡ record { state = record { procs = (apply t.state p d).procs; vars = (apply t.state p d).vars }; last = p; steps = counted (marker_steps l.head) }
      made-is = unfold stepped tables_in in refl

  -- ---- the rules

  full-after : full_size lim l' ≡ true
  full-after = sizes-full lim l' length-after (tp.size ∙ i.procs_size) (tv.size ∙ i.vars_size)

  known-after : every (cell_known vs) (var_count h) ≡ true
  known-after = rw (cells_count ∙ sym vars-after) at (tv.known i.cells_known)

  kept-after : tables_ok lim (program_of s r c) (tables_in l') ≡ true
  kept-after = rw made-tables (step_keeps lim (program_of s r c) (accepted-sane s r c i.loaded) t (stepped t p d) p mv (tables-good lim s r c l i) is)

  pub made_inside : Inside lim s r c l'
  made_inside = lent-inside lim s r c l' i.loaded i.relations i.clauses (unfold lent_ok in rw (full-after, known-after, kept-after))
