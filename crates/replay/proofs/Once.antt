-- The contract allows one result only.
use Rattle.parlog.specs.Answer.{Answer}
use mathlib.Core.Path.{◌∙◌, ◌≡◌, sym}
use mathlib.Core.List.{List}
use Prim.Native.Nat.{ℕ}
use Rattle.parlog.specs.Limits.{Limits}
use Rattle.parlog.specs.Tables.{Lent}
use Rattle.replay.specs.Replay.{ReplaySays}

pub replay-once : (lim : Limits) (s : List ℕ) (l : Lent) (trace : List ℕ) (a b : Answer ℕ) (h p v h' p' v' : List ℕ) → ReplaySays lim s l trace a h p v → ReplaySays lim s l trace b h' p' v'
    → (a ≡ b) × (h ≡ h') × (p ≡ p') × (v ≡ v')
replay-once lim s l trace a b h p v h' p' v' x y = (x.answer ∙ sym y.answer, x.head ∙ sym y.head, x.procs ∙ sym y.procs, x.vars ∙ sym y.vars)
