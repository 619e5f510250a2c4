-- A start and a run: what the tables hold then.
use Rattle.parlog.specs.declared.End.{End}
use Rattle.std.specs.Prelude.{⊤, Ok}
use Rattle.parlog.specs.Answer.{Answer}
use mathlib.Core.Path.{◌∙◌, ◌≡◌}
use mathlib.Core.Bool.{true}
use mathlib.Core.List.{List}
use Prim.Native.Nat.{◌*◌, ◌≤◌, ℕ}
use lib.ListN.{length}
use native.Mathlib.Omega.{arith}
use Rattle.load.proofs.Sanity.{accepted-sane}
use Rattle.entry.proofs.Held.{fresh-good, head-sized, same-lent, started-good, started-read, started-sized, tables-state, vars-back, vars_counted, vars-sized}
use Rattle.machine.specs.Starting.{StartSays}
use Rattle.parlog.proofs.Assume.{assume-counts, sizes-full}
use Rattle.parlog.proofs.Kept.{run-keeps}
use Rattle.parlog.specs.Calls.{enter, entered, run_call, start_call}
use Rattle.parlog.specs.Limits.{Limits, Usable}
use Rattle.parlog.specs.Load.{load_of}
use Rattle.parlog.specs.Program.{Program, program_of}
use Rattle.parlog.specs.Run.{Running, run_tables}
use Rattle.parlog.specs.TableRules.{tables_ok}
use Rattle.parlog.specs.Tables.{cell_size, fresh_tables, head_size, Lent, put_tables, row_size, started_lent, var_count, vars_in}
use Rattle.run.specs.Running.{RunSays}

-- ---- what the runner counts on after its run

-- Turns 11: the run that the runner makes
abbrev pub the_run : Limits → Program → Running
the_run lim pr = run_tables 60000 lim pr (fresh_tables pr)

pub record Played (lim : Limits) (pr : Program) (a : Answer (End × ℕ)) (h v : List ℕ) : Type 0 where
  pub answer : a ≡ Ok ((the_run lim pr).end, (the_run lim pr).moves)
  pub head : length h ≡ head_size
  pub cells : var_count h * cell_size ≤ length v
  pub goal : pr.goal_vars ≤ var_count h
  pub vars : vars_in v (var_count h) ≡ (the_run lim pr).tables.state.vars

module _ (lim : Limits) (usable : Usable lim) (s : List ℕ) (r c : ℕ) (el : load_of s ≡ Ok (r, c)) (few : (program_of s r c).goal_vars ≤ 255) where
  -- a start over rows of the full size
  begins : (l : Lent) → length l.head ≡ head_size → length l.procs ≡ lim.procs * row_size → length l.vars ≡ lim.vars * cell_size → (start_call lim s l).lent ≡ started_lent lim (program_of s r c)
  unfolding start_call
  begins l h p v = rw (el, sizes-full lim l h p v)

  -- a run over what the start left
  enters : enter lim s (started_lent lim (program_of s r c)) ≡ entered (program_of s r c) (fresh_tables (program_of s r c))
  unfolding enter
  enters = rw (el, started-good lim usable (program_of s r c) few, started-read lim usable (program_of s r c) few)

  good-run : tables_ok lim (program_of s r c) (the_run lim (program_of s r c)).tables ≡ true
  good-run = run-keeps lim (program_of s r c) (accepted-sane s r c el) 60000 (fresh_tables (program_of s r c)) (fresh-good lim usable (program_of s r c) few)

  ran : run_call lim s (started_lent lim (program_of s r c)) 60000 ≡ record {
    answer = Ok ((the_run lim (program_of s r c)).end, (the_run lim (program_of s r c)).moves);
    lent = put_tables (started_lent lim (program_of s r c)) (the_run lim (program_of s r c)).tables;
  }
  unfolding run_call
  ran = rw enters

  counts : (1 ≤ length (the_run lim (program_of s r c)).tables.state.procs) × ((program_of s r c).goal_vars ≤ length (the_run lim (program_of s r c)).tables.state.vars) × (length (the_run lim (program_of s r c)).tables.state.vars ≤ lim.vars)
  counts =
      let t = (the_run lim (program_of s r c)).tables in
      let k = assume-counts lim (program_of s r c) t.state (tables-state lim (program_of s r c) t good-run) in
      (k.0, k.2, k.3)

  from-run : (a : Answer (End × ℕ)) (h v : List ℕ) → a ≡ Ok ((the_run lim (program_of s r c)).end, (the_run lim (program_of s r c)).moves)
      → h ≡ (put_tables (started_lent lim (program_of s r c)) (the_run lim (program_of s r c)).tables).head → v ≡ (put_tables (started_lent lim (program_of s r c)) (the_run lim (program_of s r c)).tables).vars
      → Played lim (program_of s r c) a h v
  from-run a h v ea eh ev =
      let t = (the_run lim (program_of s r c)).tables in
      let l = started_lent lim (program_of s r c) in
      let k = counts in
      let z = started-sized lim usable (program_of s r c) few in
      let n : length t.state.vars * cell_size ≤ length l.vars = omega (arith, z, k.2) in
      let m : var_count h ≡ length t.state.vars = rw eh (vars_counted l t) in
      let w : length v ≡ length l.vars = rw ev (vars-sized l t n) in
      record { answer = ea; head = rw eh (head-sized l t); cells = omega (arith, m, w, n); goal = omega (arith, m, k.1); vars = rw (eh, ev) (vars-back l t n) }

  played : (l l₁ : Lent) {b : Answer ⊤} {a : Answer (End × ℕ)} {h p v : List ℕ} → length l.head ≡ head_size → length l.procs ≡ lim.procs * row_size → length l.vars ≡ lim.vars * cell_size
      → StartSays lim s l b l₁.head l₁.procs l₁.vars → RunSays lim s l₁ 60000 a h p v → Played lim (program_of s r c) a h v
  played l l₁ {a = a} {h = h} {v = v} nh np nv st ru =
      let e = begins l nh np nv in
      let same : l₁ ≡ started_lent lim (program_of s r c) = same-lent l₁ (started_lent lim (program_of s r c)) (st.head ∙ rw e) (st.procs ∙ rw e) (st.vars ∙ rw e) in
      let q = rw same at ru in
      from-run a h v (q.answer ∙ rw ran) (q.head ∙ rw ran) (q.vars ∙ rw ran)

-- THE LAW: what the runner counts on once it has started and run an accepted image
pub plays : (lim : Limits) → Usable lim → (s : List ℕ) (r c : ℕ) {g : ℕ} (l l₁ : Lent) {b : Answer ⊤} {a : Answer (End × ℕ)} {h p v : List ℕ} → load_of s ≡ Ok (r, c) → g ≡ (program_of s r c).goal_vars → g ≤ 255
    → length l.head ≡ head_size → length l.procs ≡ lim.procs * row_size → length l.vars ≡ lim.vars * cell_size
    → StartSays lim s l b l₁.head l₁.procs l₁.vars → RunSays lim s l₁ 60000 a h p v → Played lim (program_of s r c) a h v
plays lim ok s r c l l₁ el eg hg nh np nv st ru = played lim ok s r c el (rw eg at hg) l l₁ nh np nv st ru
