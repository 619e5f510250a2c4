-- The contract allows one result only.
use Rattle.parlog.specs.declared.End.{End}
use Rattle.parlog.specs.Answer.{Answer}
use mathlib.Core.Path.{◌≡◌}
use mathlib.Core.List.{List}
use Prim.Native.Nat.{ℕ}
use Rattle.bound.proofs.Once.{row-once}
use Rattle.bound.specs.Calls.{RowSays}
use Rattle.parlog.specs.Limits.{Limits}
use Rattle.parlog.specs.Tables.{Lent}
use Rattle.run_traced.specs.Traced.{run_traced_call}

module _ (lim : Limits) (s : List ℕ) (l : Lent) (row : List ℕ) {h ps vs w h' ps' vs' w' : List ℕ} where
  pub run-traced-once : (limit stamp : ℕ) {a b : Answer (End × ℕ)} → RowSays (run_traced_call lim s l row limit stamp) a h ps vs w → RowSays (run_traced_call lim s l row limit stamp) b h' ps' vs' w'
      → (a ≡ b) × (h ≡ h') × (ps ≡ ps') × (vs ≡ vs') × (w ≡ w')
  run-traced-once limit stamp x y = row-once (run_traced_call lim s l row limit stamp) x y
