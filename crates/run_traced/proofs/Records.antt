-- The records of a run, by what its next turn is.
use Rattle.std.specs.Prelude.{Some, None}
use mathlib.Core.Path.{◌∙◌, ◌≡◌, refl, sym}
use mathlib.Core.List.{[], ◌++◌, List}
use Prim.Native.Nat.{◌*◌, ◌+◌, suc, zero, ℕ}
use lib.ListN.{length}
use native.Mathlib.Omega.{arith}
use Rattle.lay.proofs.Laws.{laid_then}
use Rattle.lay.specs.Lay.{laid}
use Rattle.parlog.specs.Limits.{Limits}
use Rattle.parlog.specs.Numbers.{rule_number}
use Rattle.parlog.specs.Program.{Program}
use Rattle.parlog.specs.Run.{goal_ended, made, step_tables, turn_for, unmade}
use Rattle.parlog.specs.Tables.{Tables}
use Rattle.parlog.specs.declared.Move.{Move}
use Rattle.run.specs.Running.{unless_ended}
use Rattle.run_traced.specs.Traced.{run_records}
use Rattle.trace.specs.Trace.{following, record_bytes, step_kind, trace_size}

module _ (lim : Limits) (pr : Program) (stamp : ℕ) (t : Tables) where
  pub records-none : unless_ended (goal_ended t) (turn_for pr t) ≡ None → (n : ℕ) → run_records n lim pr stamp t ≡ []
  unfolding run_records
  records-none e zero = refl
  records-none e (suc n) = rw e

  module _ {p : ℕ} (e : unless_ended (goal_ended t) (turn_for pr t) ≡ Some p) where
    pub records-room : {j : ℕ} → step_tables lim pr t p ≡ unmade j → (n : ℕ) → run_records (suc n) lim pr stamp t ≡ []
    unfolding run_records
    records-room g n = rw (e, g)

    pub records-goes : {m : Move} {t' : Tables} → step_tables lim pr t p ≡ made m t' → (n : ℕ) → run_records (suc n) lim pr stamp t ≡ record_bytes step_kind p (rule_number m) stamp ++ run_records n lim pr (following stamp) t'
    unfolding run_records
    records-goes g n = rw (e, g)

-- a record behind k others, and what is laid behind it
pub laid-record : (row bs cs : List ℕ) (k : ℕ) → length bs ≡ trace_size → laid row (k * trace_size) (bs ++ cs) ≡ laid (laid row (k * trace_size) bs) ((k + 1) * trace_size) cs
laid-record row bs cs k e =
    let z : k * trace_size + length bs ≡ (k + 1) * trace_size = omega arith in
    sym (laid_then bs cs row (k * trace_size)) ∙ rw z
