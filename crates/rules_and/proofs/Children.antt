-- The rows of the processes that a plan makes.
use Rattle.std.specs.Prelude.{None}
use mathlib.Core.Path.{◌∙◌, ◌≡◌, ap, sym}
use mathlib.Core.List.{[], ◌++◌, ◌∷◌, List}
use Prim.Native.Nat.{◌+◌, ℕ}
use lib.ListN.{length, length-append}
use native.Mathlib.Omega.{arith}
use native.Mathlib.Numerals.{add-one}
use Rattle.parlog.proofs.Rows.{build-snoc}
use Rattle.parlog.specs.Delta.{making}
use Rattle.parlog.specs.Rules.{Applied, by_rule}
use Rattle.parlog.specs.Scan.{build}
use Rattle.parlog.specs.Tables.{procs_of}
use Rattle.parlog.specs.declared.Move.{Move}
use Rattle.parlog.specs.declared.Process.{Process}
use Rattle.rows.proofs.Tables.{procs-length, procs-none, table-rows}
use Rattle.rows.specs.Rows.{Table}
use Rattle.move_plan.proofs.Made.{first-row}

-- ---- two children

module _ (rows : List ℕ) {new : List ℕ} {y : Process} (t : Table rows new (procs_of rows 0 ++ (y ∷ []))) where
  pub two_made : {z : Process} {last : List ℕ} → Table new last (procs_of new 1 ++ (z ∷ []))
      → {mv : Move} {x : Process} {a : Applied} → a ≡ by_rule mv (making x None (procs_of last 2) 0) → a ≡ by_rule mv (making x None (y ∷ z ∷ []) 0)
  two_made {z} {last} u e =
      let f : procs_of new 1 ++ (z ∷ []) ≡ y ∷ z ∷ [] = rw (first-row rows t) in
      let g : procs_of last 2 ≡ y ∷ z ∷ [] = table-rows 2 u (ap length f) ∙ f in
      rw g at e

-- ---- one for each member, row by row

module _ (f : ℕ → Process) where
  pub fill_start : (l : List ℕ) → procs_of l 0 ≡ build f 0
  unfolding build
  fill_start l = procs-none l

  pub fill-next : (l m : List ℕ) (j : ℕ) {y : Process} → procs_of l j ≡ build f j → y ≡ f j → Table l m (procs_of l j ++ (y ∷ [])) → procs_of m (j + 1) ≡ build f (j + 1)
  fill-next l m j {y} e ey t =
      let k : length (procs_of l j ++ (y ∷ [])) ≡ j + 1 = length-append (procs_of l j) (y ∷ []) ∙ omega (arith, procs-length l j) in
      table-rows (j + 1) t k ∙ rw (e, ey, add-one j) (sym (build-snoc f j))

  pub fill_end : (l : List ℕ) (j k : ℕ) → procs_of l j ≡ build f j → j ≡ k → procs_of l k ≡ build f k
  fill_end l j k e h = rw h at e
