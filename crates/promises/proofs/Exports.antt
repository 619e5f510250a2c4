-- At the limits of the exports: what leans on limits that a start can keep, and the bound as a number.
use mathlib.Core.Path.{◌≡◌}
use mathlib.Core.List.{List}
use Prim.Native.Nat.{ℕ}
use Rattle.parlog.proofs.Limits.{small-usable}
use Rattle.parlog.specs.Limits.{small}
use Rattle.parlog.specs.Program.{program_of}
use Rattle.parlog.specs.Tables.{Lent}
use Rattle.promises.proofs.Demand3.{demand-3a}
use Rattle.promises.proofs.Gone.{night-same}
use Rattle.promises.specs.Reach.{Came, Follow, Night, ServedBy}
use Rattle.promises.specs.Refusals.{CanMove, state_in}
use Rattle.refusals.specs.Right.{RightImage}

-- a process that can move has moved within the next 512 turn steps made, or is dormant first
pub small-bound : (s : List ℕ) (l : Lent) → Came small s l → {r c : ℕ} → RightImage s r c → (p : ℕ) → CanMove (program_of s r c) (state_in l) p
    → (f : Follow small s l) → ServedBy small s (program_of s r c) p 512 l f
unfolding small
small-bound s l came right p m f = demand-3a small small-usable s l came right p m f

-- what came, saved and read back, is what it was, byte for byte
pub small-night : (s : List ℕ) (l : Lent) → Came small s l → {r c : ℕ} → RightImage s r c → (l' : Lent) → Night small s l l' → l' ≡ l
small-night s l came {r} {c} right l' night = night-same small s r c small-usable right came l' night
