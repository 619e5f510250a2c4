-- The rows of the processes that a plan makes, and the row that it touches.
use Rattle.std.specs.Prelude.{Option}
use mathlib.Core.Path.{◌∙◌, ◌≡◌, ap, refl}
use mathlib.Core.List.{[], ◌++◌, ◌∷◌, List}
use Prim.Native.Nat.{suc, zero, ℕ}
use lib.ListN.{length}
use Rattle.parlog.specs.Delta.{making}
use Rattle.parlog.specs.Rules.{Applied, by_rule, first_made}
use Rattle.parlog.specs.Tables.{procs_of, State}
use Rattle.parlog.specs.declared.Move.{Move}
use Rattle.parlog.specs.declared.Process.{Process}
use Rattle.rows.proofs.Tables.{procs-none, table-rows}
use Rattle.rows.specs.Rows.{Table}
use Rattle.move_plan.specs.Plans.{touched}

-- ---- one new process

module _ (rows : List ℕ) {new : List ℕ} {y : Process} (t : Table rows new (procs_of rows 0 ++ (y ∷ []))) where
  pub first-row : procs_of new 1 ≡ y ∷ []
  first-row =
      let e : procs_of rows 0 ++ (y ∷ []) ≡ y ∷ [] = rw (procs-none rows) in
      table-rows 1 t (ap length e) ∙ e

  pub one-made : {mv : Move} {x : Process} {nap : Option ℕ} {a : Applied} → a ≡ by_rule mv (making x nap (procs_of new 1) 0) → a ≡ by_rule mv (making x nap (y ∷ []) 0)
  one-made e = rw first-row at e

-- ---- the row that is touched

pub touch-mover : (n p k : ℕ) → k ≡ 0 → p ≡ touched n p k
unfolding touched
touch-mover n p k e = rw e

pub touch-next : (n p k : ℕ) → (k ≡ 0 → ⊥) → n ≡ touched n p k
unfolding touched
touch-next n p zero ne = absurd (ne refl)
touch-next n p (suc k) ne = refl

pub touches : (s : State) (n p k : ℕ) (ps : List Process) → length s.procs ≡ n → length ps ≡ k → touched n p k ≡ first_made s p ps
unfolding touched
touches s n p k [] es ek = rw (← ek)
touches s n p k (y ∷ ys) es ek = rw (← ek, es)
