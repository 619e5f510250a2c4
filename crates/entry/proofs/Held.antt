-- Tables in lent bytes: what is written is read back, bytes that hold good tables are good, and so is what a start leaves.
use mathlib.Core.Path.{◌∙◌, ◌≡◌, refl}
use mathlib.Core.Bool.{true}
use Prim.Native.Nat.{◌*◌, ◌<◌, ◌≤◌, suc, zero, ℕ}
use lib.Dec.{ltb}
use lib.ListN.{length}
use native.Mathlib.Omega.{arith}
use Rattle.head.proofs.Laws.{head-last, head-length, head-procs, head-steps, head-vars}
use Rattle.parlog.proofs.Assume.{assume-counts, full-sizes, sizes-full}
use Rattle.std.proofs.lemmas.Bool.{and_parts}
use Rattle.parlog.proofs.Kept.{fresh_keeps}
use Rattle.parlog.proofs.Rows.{rows-length, written_over}
use Rattle.parlog.specs.Limits.{Limits, Usable}
use Rattle.parlog.specs.Program.{Program}
use Rattle.parlog.specs.Scan.{every}
use Rattle.parlog.specs.TableRules.{cell_known, full_size, lent_ok, state_ok, tables_ok}
use Rattle.parlog.specs.Tables.{at, binding_bytes, cell_size, fresh, fresh_tables, head_size, lent, Lent, marker_last, marker_steps, new_process, proc_count, process_bytes, procs_of, put_tables, rows_bytes, row_size, started_lent, Tables, tables_in, var_count, vars_in, zeros}
use Rattle.rows.proofs.Exact.{table-written}
use Rattle.rows.proofs.Laws.{row-length, zeros-length}
use Rattle.rows.proofs.Tables.{procs-length}
use Rattle.rows.specs.Rows.{Four}
use Rattle.vars.proofs.Exact.{cells-written}
use Rattle.vars.proofs.Laws.{cell-length}
use Rattle.vars.proofs.Tables.{vars-length}

-- bytes with the same three rows
pub same-lent : (l m : Lent) → l.head ≡ m.head → l.procs ≡ m.procs → l.vars ≡ m.vars → l ≡ m
same-lent l m a b c = λ i. record { head = a i; procs = b i; vars = c i }

-- how many rows the tables of these bytes have
pub count-procs : (l : Lent) → length (tables_in l).state.procs ≡ proc_count l.head
unfolding tables_in
count-procs l = procs-length l.procs (proc_count l.head)

pub count-vars : (l : Lent) → length (tables_in l).state.vars ≡ var_count l.head
unfolding tables_in
count-vars l = vars-length l.vars (var_count l.head)

-- ---- tables written into lent bytes

module _ (l : Lent) (t : Tables) where
  abbrev n : ℕ
  n = length t.state.procs

  abbrev m : ℕ
  m = length t.state.vars

  pub head-sized : length (put_tables l t).head ≡ head_size
  unfolding put_tables
  head-sized = head-length n m t.last t.steps

  pub vars_counted : var_count (put_tables l t).head ≡ m
  unfolding put_tables
  vars_counted = head-vars n m t.last t.steps

  last-back : marker_last (put_tables l t).head ≡ t.last
  unfolding put_tables
  last-back = head-last n m t.last t.steps

  steps_back : marker_steps (put_tables l t).head ≡ t.steps
  unfolding put_tables
  steps_back = head-steps n m t.last t.steps

  module _ (cells : m * cell_size ≤ length l.vars) where
    pub vars-sized : length (put_tables l t).vars ≡ length l.vars
    unfolding put_tables
    vars-sized = (cells-written 0 l.vars t.state.vars cells).size

    pub vars-back : vars_in (put_tables l t).vars (var_count (put_tables l t).head) ≡ t.state.vars
    unfolding put_tables
    vars-back = rw (head-vars n m t.last t.steps) (cells-written 0 l.vars t.state.vars cells).cells

    vars-known : every (cell_known (put_tables l t).vars) (var_count (put_tables l t).head) ≡ true
    unfolding put_tables
    vars-known = rw (head-vars n m t.last t.steps) ((cells-written 0 l.vars t.state.vars cells).known (unfold every in refl))

    module _ (has : (i : ℕ) → i < n → Four (at t.state.procs i)) (rows : n * row_size ≤ length l.procs) where
      procs-sized : length (put_tables l t).procs ≡ length l.procs
      unfolding put_tables
      procs-sized = (table-written l.procs t.state.procs has rows).size

      procs-back : procs_of (put_tables l t).procs (proc_count (put_tables l t).head) ≡ t.state.procs
      unfolding put_tables
      procs-back = rw (head-procs n m t.last t.steps) (table-written l.procs t.state.procs has rows).rows

      tables-back : tables_in (put_tables l t) ≡ t
      unfolding tables_in
      tables-back = λ i. record { state = record { procs = procs-back i; vars = vars-back i }; last = last-back i; steps = steps_back i }

-- tables over others that had no more rows
pub put-over : (l : Lent) (t u : Tables) → length t.state.procs ≤ length u.state.procs → length t.state.vars ≤ length u.state.vars
    → length u.state.procs * row_size ≤ length l.procs → length u.state.vars * cell_size ≤ length l.vars → put_tables (put_tables l t) u ≡ put_tables l u
unfolding put_tables
put-over l t u more_procs more_vars rows cells =
    let a = rows-length process_bytes 24 row-length t.state.procs in
    let b = rows-length process_bytes 24 row-length u.state.procs in
    let c = rows-length binding_bytes 4 cell-length t.state.vars in
    let d = rows-length binding_bytes 4 cell-length u.state.vars in
    same-lent _ _ refl
    (written_over (rows_bytes process_bytes t.state.procs) (rows_bytes process_bytes u.state.procs) l.procs (omega arith) (omega arith))
    (written_over (rows_bytes binding_bytes t.state.vars) (rows_bytes binding_bytes u.state.vars) l.vars (omega arith) (omega arith))

-- ---- good tables in bytes of the full size

pub tables-state : (lim : Limits) (pr : Program) (t : Tables) → tables_ok lim pr t ≡ true → state_ok lim pr t.state ≡ true
unfolding tables_ok
tables-state lim pr t ok = (and_parts (state_ok lim pr t.state) (ltb t.last (length t.state.procs)) ok).0

module _ (lim : Limits) (pr : Program) (l : Lent) (t : Tables) (full : full_size lim l ≡ true) (ok : tables_ok lim pr t ≡ true) where
  pub rows_fit : length t.state.procs * row_size ≤ length l.procs
  rows_fit = let k = assume-counts lim pr t.state (tables-state lim pr t ok) in omega (arith, (full-sizes lim l full).1, k.1)

  pub cells_fit : length t.state.vars * cell_size ≤ length l.vars
  cells_fit = let k = assume-counts lim pr t.state (tables-state lim pr t ok) in omega (arith, (full-sizes lim l full).2, k.3)

  module _ (has : (i : ℕ) → i < length t.state.procs → Four (at t.state.procs i)) where
    -- what is written is read back
    pub put-read : tables_in (put_tables l t) ≡ t
    put-read = tables-back l t cells_fit has rows_fit

    put_full : full_size lim (put_tables l t) ≡ true
    put_full = let b = full-sizes lim l full in sizes-full lim (put_tables l t) (head-sized l t) (procs-sized l t cells_fit has rows_fit ∙ b.1) (vars-sized l t cells_fit ∙ b.2)

    pub put-good : lent_ok lim pr (put_tables l t) ≡ true
    unfolding lent_ok
    put-good = rw (put_full, vars-known l t cells_fit, put-read, ok)

-- ---- what a start leaves

abbrev blank : Limits → Lent
blank lim = lent (zeros head_size) (zeros (lim.procs * row_size)) (zeros (lim.vars * cell_size))

blank-full : (lim : Limits) → full_size lim (blank lim) ≡ true
blank-full lim = sizes-full lim (blank lim) (zeros-length head_size) (zeros-length (lim.procs * row_size)) (zeros-length (lim.vars * cell_size))

module _ (lim : Limits) (usable : Usable lim) (pr : Program) (few : pr.goal_vars ≤ 255) where
  started-is : started_lent lim pr ≡ put_tables (blank lim) (fresh_tables pr)
  unfolding started_lent
  started-is = refl

  pub fresh-good : tables_ok lim pr (fresh_tables pr) ≡ true
  fresh-good = fresh_keeps lim pr usable.goal (omega (arith, usable.goal-vars))

  fresh-four : (i : ℕ) → i < length (fresh_tables pr).state.procs → Four (at (fresh_tables pr).state.procs i)
  unfolding fresh_tables fresh new_process
  fresh-four zero h = refl
  fresh-four (suc i) h = absurd (omega arith)

  pub started-read : tables_in (started_lent lim pr) ≡ fresh_tables pr
  started-read = rw started-is (put-read lim pr (blank lim) (fresh_tables pr) (blank-full lim) fresh-good fresh-four)

  pub started-good : lent_ok lim pr (started_lent lim pr) ≡ true
  started-good = rw started-is (put-good lim pr (blank lim) (fresh_tables pr) (blank-full lim) fresh-good fresh-four)

  pub started-sized : length (started_lent lim pr).vars ≡ lim.vars * cell_size
  started-sized = rw started-is (vars-sized (blank lim) (fresh_tables pr) (cells_fit lim pr (blank lim) (fresh_tables pr) (blank-full lim) fresh-good) ∙ zeros-length (lim.vars * cell_size))
