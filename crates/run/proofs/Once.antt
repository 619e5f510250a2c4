-- Each contract allows one result only.
use Rattle.parlog.specs.declared.Move.{Move}
use Rattle.parlog.specs.declared.End.{End}
use Rattle.parlog.specs.Answer.{Answer}
use mathlib.Core.Path.{◌∙◌, ◌≡◌, sym}
use mathlib.Core.List.{List}
use Prim.Native.Nat.{ℕ}
use Rattle.parlog.specs.Limits.{Limits}
use Rattle.parlog.specs.Tables.{Lent}
use Rattle.run.specs.Running.{RunSays, TurnSays}

pub turn-once : (lim : Limits) (s : List ℕ) (l : Lent) (r q : Answer Move) (h p v h' p' v' : List ℕ) → TurnSays lim s l r h p v → TurnSays lim s l q h' p' v'
    → (r ≡ q) × (h ≡ h') × (p ≡ p') × (v ≡ v')
turn-once lim s l r q h p v h' p' v' a b = (a.answer ∙ sym b.answer, a.head ∙ sym b.head, a.procs ∙ sym b.procs, a.vars ∙ sym b.vars)

pub run-once : (lim : Limits) (s : List ℕ) (l : Lent) (limit : ℕ) (r q : Answer (End × ℕ)) (h p v h' p' v' : List ℕ) → RunSays lim s l limit r h p v → RunSays lim s l limit q h' p' v'
    → (r ≡ q) × (h ≡ h') × (p ≡ p') × (v ≡ v')
run-once lim s l limit r q h p v h' p' v' a b = (a.answer ∙ sym b.answer, a.head ∙ sym b.head, a.procs ∙ sym b.procs, a.vars ∙ sym b.vars)
