-- The contract allows one result only.
use Rattle.parlog.specs.Answer.{Answer}
use mathlib.Core.Path.{◌∙◌, ◌≡◌, sym}
use mathlib.Core.List.{List}
use Prim.Native.Nat.{ℕ}
use Rattle.parlog.specs.Limits.{Limits}
use Rattle.parlog.specs.Tables.{Lent}
use Rattle.values.specs.Values.{ValuesSays}

pub values-once : (lim : Limits) (s : List ℕ) (l : Lent) (row : List ℕ) (r q : Answer ℕ) (a b : List ℕ) → ValuesSays lim s l row r a → ValuesSays lim s l row q b → (r ≡ q) × (a ≡ b)
values-once lim s l row r q a b x y = (x.answer ∙ sym y.answer, x.row_is ∙ sym y.row_is)
