-- Each contract allows one result only.
use Rattle.std.specs.Prelude.{⊤}
use Rattle.parlog.specs.declared.Term.{Term}
use Rattle.parlog.specs.Answer.{Answer}
use mathlib.Core.Path.{◌∙◌, ◌≡◌, sym}
use mathlib.Core.List.{List}
use Prim.Native.Nat.{ℕ}
use Rattle.machine.specs.Starting.{StartSays}
use Rattle.machine.specs.Supplying.{SupplySays}
use Rattle.parlog.specs.Calls.{value_call}
use Rattle.parlog.specs.Limits.{Limits}
use Rattle.parlog.specs.Tables.{Lent}

pub value-once : (lim : Limits) (s : List ℕ) (l : Lent) (v : ℕ) (r q : Answer Term) → r ≡ value_call lim s l v → q ≡ value_call lim s l v → r ≡ q
value-once lim s l v r q a b = a ∙ sym b

pub start-once : (lim : Limits) (s : List ℕ) (l : Lent) (r q : Answer ⊤) (h p v h' p' v' : List ℕ) → StartSays lim s l r h p v → StartSays lim s l q h' p' v'
    → (r ≡ q) × (h ≡ h') × (p ≡ p') × (v ≡ v')
start-once lim s l r q h p v h' p' v' a b = (a.answer ∙ sym b.answer, a.head ∙ sym b.head, a.procs ∙ sym b.procs, a.vars ∙ sym b.vars)

pub supply-once : (lim : Limits) (s : List ℕ) (l : Lent) (v c : ℕ) (r q : Answer ℕ) (h p w h' p' w' : List ℕ) → SupplySays lim s l v c r h p w → SupplySays lim s l v c q h' p' w'
    → (r ≡ q) × (h ≡ h') × (p ≡ p') × (w ≡ w')
supply-once lim s l v c r q h p w h' p' w' a b = (a.answer ∙ sym b.answer, a.head ∙ sym b.head, a.procs ∙ sym b.procs, a.vars ∙ sym b.vars)
