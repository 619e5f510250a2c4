-- What a run comes to, by what its next turn is; and the loop of a run.
use Rattle.std.specs.Prelude.{Ok, Some, None}
use mathlib.Core.Path.{◌∙◌, ◌≡◌, ap, refl}
use mathlib.Core.Logic.{◌≢◌}
use mathlib.Core.Bool.{Bool, false, not, true}
use mathlib.Core.List.{List}
use Prim.Native.Nat.{◌+◌, ◌-◌, ◌<◌, suc, zero, ℕ}
use lib.Dec.{eqb}
use native.Mathlib.Omega.{arith}
use Rattle.head.proofs.Laws.{head_is}
use Rattle.entry.proofs.Held.{count-procs, count-vars, put-over, same-lent}
use Rattle.entry.specs.Entered.{Inside}
use Rattle.parlog.specs.Codes.{is_live, result_of}
use Rattle.parlog.specs.Limits.{Limits}
use Rattle.parlog.specs.Program.{Program, program_of}
use Rattle.parlog.specs.Run.{end_of, goal_ended, goal_result, halt, made, run_from, run_step, run_tables, run_test, run_turn, step_tables, turn_for, unmade}
use Rattle.parlog.specs.Tables.{Lent, proc_count, put_tables, Tables, tables_in, var_count}
use Rattle.parlog.specs.declared.End.{End}
use Rattle.parlog.specs.declared.End.TheVariants.{Budget, Failure, Room, Success, Waiting}
use Rattle.parlog.specs.declared.Move.{Move}
use Rattle.rows.proofs.Exact.{table-bytes}
use Rattle.rows.proofs.Tables.{procs-length, table_same}
use Rattle.rows.specs.Rows.{Bytes}
use Rattle.run.specs.Running.{Going, Grown, RanSays}
use Rattle.vars.proofs.Exact.{cells-bytes}
use Rattle.vars.proofs.Tables.{cells_same, vars-length}

-- ---- the goal's process

pub sleeps : {x mode : ℕ} → x ≡ mode → eqb x 0 ≡ not (is_live mode)
sleeps {x} {mode} e = rw e (go (eqb mode 0))
  where
    go : (b : Bool) → b ≡ not (not b)
    go true = refl
    go false = refl

pub end-one : (x : ℕ) → x ≡ 1 → Success ≡ end_of (result_of x)
unfolding result_of
end-one x e = rw e

pub end-other : (x : ℕ) → x ≢ 1 → Failure ≡ end_of (result_of x)
unfolding result_of
end-other zero h = refl
end-other (suc zero) h = absurd (h refl)
end-other (suc (suc x)) h = refl

-- ---- by the definitions

module _ (lim : Limits) (pr : Program) (t : Tables) where
  pub run-ended : (k n : ℕ) → goal_ended t ≡ true → run_from k lim pr n t ≡ halt (goal_result t) n t
  unfolding run_from run_test
  run-ended zero n e = rw e
  run-ended (suc k) n e = rw e

  module _ (e : goal_ended t ≡ false) where
    pub run-waits : (k n : ℕ) → turn_for pr t ≡ None → run_from k lim pr n t ≡ halt Waiting n t
    unfolding run_from run_test run_turn
    run-waits zero n f = rw (e, f)
    run-waits (suc k) n f = rw (e, f)

    module _ {p : ℕ} (f : turn_for pr t ≡ Some p) where
      pub run-spent : (n : ℕ) → run_from 0 lim pr n t ≡ halt Budget n t
      unfolding run_from run_test run_turn
      run-spent n = rw (e, f)

      pub run_room : (k n : ℕ) {j : ℕ} → step_tables lim pr t p ≡ unmade j → run_from (suc k) lim pr n t ≡ halt Room n t
      unfolding run_from run_test run_turn run_step
      run_room k n g = rw (e, f, g)

      pub run-goes : (k n : ℕ) {m : Move} {t' : Tables} → step_tables lim pr t p ≡ made m t' → run_from (suc k) lim pr n t ≡ run_from k lim pr (suc n) t'
      unfolding run_from run_test run_turn run_step
      run-goes k n g = rw (e, f, g)

-- ---- tables written over

-- tables written over fewer of the same tables
module _ {lim : Limits} {s : List ℕ} {r c : ℕ} (l₀ l l' : Lent) (i₀ : Inside lim s r c l₀) (i : Inside lim s r c l) (i' : Inside lim s r c l') (a : Grown l₀ l) (b : Grown l l') where
  over : l' ≡ put_tables l₀ (tables_in l')
  over =
      let first : l ≡ put_tables l₀ (tables_in l) = same-lent l (put_tables l₀ (tables_in l)) a.head a.procs a.vars in
      let second : l' ≡ put_tables l (tables_in l') = same-lent l' (put_tables l (tables_in l')) b.head b.procs b.vars in
      let n = count-procs l in
      let n' = count-procs l' in
      let m = count-vars l in
      let m' = count-vars l' in
      second
      ∙ ap (λ (x : Lent). put_tables x (tables_in l')) first
      ∙ put-over l₀ (tables_in l) (tables_in l') (omega (arith, b.more_procs)) (omega (arith, b.more_vars)) (omega (arith, i₀.procs_size, i'.procs_most)) (omega (arith, i₀.vars_size, i'.vars_most))

  pub grown-then : Grown l₀ l'
  grown-then = record {
    head = ap (λ (x : Lent). x.head) over;
    procs = ap (λ (x : Lent). x.procs) over;
    vars = ap (λ (x : Lent). x.vars) over;
    more_procs = omega (arith, a.more_procs, b.more_procs);
    more_vars = omega (arith, a.more_vars, b.more_vars);
  }

-- the same bytes hold their own tables
pub grown-same : {lim : Limits} {s : List ℕ} {r c : ℕ} (l : Lent) → Inside lim s r c l → Bytes l.head → Bytes l.procs → Bytes l.vars → Grown l l
grown-same l i hs ps vs = record { head = head-same; procs = procs-same; vars = vars-same; more_procs = omega arith; more_vars = omega arith }
  where
    head-same : l.head ≡ (put_tables l (tables_in l)).head
    head-same = unfold put_tables tables_in in (head_is l.head i.head hs ∙ rw (procs-length l.procs (proc_count l.head), vars-length l.vars (var_count l.head)))

    procs-same : l.procs ≡ (put_tables l (tables_in l)).procs
    procs-same = unfold put_tables tables_in in (table-bytes (table_same l.procs (proc_count l.head)) ps (omega (arith, procs-length l.procs (proc_count l.head), i.rows)))

    vars-same : l.vars ≡ (put_tables l (tables_in l)).vars
    vars-same = unfold put_tables tables_in in (cells-bytes (cells_same l.vars (var_count l.head)) i.cells_known vs (omega (arith, vars-length l.vars (var_count l.head), i.cells)))

-- ---- the loop

-- k less than the limit
pub one_less : (limit k : ℕ) → k < limit → limit - k ≡ suc (limit - (k + 1))
one_less limit k h = omega arith

module _ (lim : Limits) (s : List ℕ) (r c : ℕ) (l₀ : Lent) (limit : ℕ) where
  pub going_start : Inside lim s r c l₀ → Bytes l₀.head → Bytes l₀.procs → Bytes l₀.vars → Going lim s r c l₀ l₀ limit 0
  going_start i hs ps vs = record { inside = i; most = omega arith; rest = ap (λ (k : ℕ). run_from k lim (program_of s r c) 0 (tables_in l₀)) (omega arith); holds = grown-same l₀ i hs ps vs }

  module _ (i₀ : Inside lim s r c l₀) (l : Lent) (k : ℕ) (g : Going lim s r c l₀ l limit k) where
    -- the run comes to this
    pub comes-to : (e : End) → run_from (limit - k) lim (program_of s r c) k (tables_in l) ≡ halt e k (tables_in l) → RanSays lim s r c l₀ limit (Ok (e, k)) l
    comes-to e q =
        let z : run_tables limit lim (program_of s r c) (tables_in l₀) ≡ halt e k (tables_in l) = unfold run_tables in (g.rest ∙ q) in
        record { answer = rw z; head = rw z g.holds.head; procs = rw z g.holds.procs; vars = rw z g.holds.vars }
