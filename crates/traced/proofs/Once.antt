-- The contracts allow one result only.
use Rattle.parlog.specs.declared.Move.{Move}
use Rattle.parlog.specs.Answer.{Answer}
use mathlib.Core.Path.{◌≡◌}
use mathlib.Core.List.{List}
use Prim.Native.Nat.{ℕ}
use Rattle.bound.proofs.Once.{row-once}
use Rattle.bound.specs.Calls.{RowSays}
use Rattle.parlog.specs.Limits.{Limits}
use Rattle.parlog.specs.Tables.{Lent}
use Rattle.traced.specs.Traced.{step_traced_call, supply_traced_call}

module _ (lim : Limits) (s : List ℕ) (l : Lent) (row : List ℕ) {h ps vs w h' ps' vs' w' : List ℕ} where
  pub step-traced-once : (p stamp : ℕ) {a b : Answer Move} → RowSays (step_traced_call lim s l row p stamp) a h ps vs w → RowSays (step_traced_call lim s l row p stamp) b h' ps' vs' w'
      → (a ≡ b) × (h ≡ h') × (ps ≡ ps') × (vs ≡ vs') × (w ≡ w')
  step-traced-once p stamp x y = row-once (step_traced_call lim s l row p stamp) x y

  pub supply-traced-once : (v c stamp : ℕ) {a b : Answer ℕ} → RowSays (supply_traced_call lim s l row v c stamp) a h ps vs w → RowSays (supply_traced_call lim s l row v c stamp) b h' ps' vs' w'
      → (a ≡ b) × (h ≡ h') × (ps ≡ ps') × (vs ≡ vs') × (w ≡ w')
  supply-traced-once v c stamp x y = row-once (supply_traced_call lim s l row v c stamp) x y
