-- The contract allows one result only.
use Rattle.parlog.specs.declared.Move.{Move}
use Rattle.parlog.specs.Answer.{Answer}
use mathlib.Core.Path.{◌∙◌, ◌≡◌, sym}
use mathlib.Core.List.{List}
use Prim.Native.Nat.{ℕ}
use Rattle.parlog.specs.Limits.{Limits}
use Rattle.parlog.specs.Tables.{Lent}
use Rattle.step.specs.Stepping.{StepSays}

pub step-once : (lim : Limits) (s : List ℕ) (l : Lent) (p : ℕ) (r q : Answer Move) (h ps vs h' ps' vs' : List ℕ) → StepSays lim s l p r h ps vs → StepSays lim s l p q h' ps' vs'
    → (r ≡ q) × (h ≡ h') × (ps ≡ ps') × (vs ≡ vs')
step-once lim s l p r q h ps vs h' ps' vs' a b = (a.answer ∙ sym b.answer, a.head ∙ sym b.head, a.procs ∙ sym b.procs, a.vars ∙ sym b.vars)
