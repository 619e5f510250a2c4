-- The contracts allow one result only.
use mathlib.Core.Path.{◌∙◌, ◌≡◌, sym}
use mathlib.Core.List.{List}
use Prim.Native.Nat.{ℕ}
use Rattle.bound.specs.Calls.{RowCall, RowSays}

pub row-once : {A : Type 0} (c : RowCall A) {a b : A} {h ps vs w h' ps' vs' w' : List ℕ} → RowSays c a h ps vs w → RowSays c b h' ps' vs' w'
    → (a ≡ b) × (h ≡ h') × (ps ≡ ps') × (vs ≡ vs') × (w ≡ w')
row-once c x y = (x.answer ∙ sym y.answer, x.head ∙ sym y.head, x.procs ∙ sym y.procs, x.vars ∙ sym y.vars, x.row ∙ sym y.row)
