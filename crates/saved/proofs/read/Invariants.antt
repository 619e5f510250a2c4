use Prim.Native.Nat.{◌≤◌, ◌-◌}
use mathlib.Core.Path.{◌≡◌}
use lib.ListN.{length}
use Rattle.saved.specs.Reading.{known, reads, read_saved}
use Rattle.saved.proofs.read.Given as goal

abbrev pub invariant-loop-at : goal.invariant-loop-at
invariant-loop-at l = (reads l.s (length l.s) l.at (known l.g) ≡ read_saved l.s) × (l.g.procs ≤ l.at) × (l.g.vars ≤ l.at) × (l.at ≤ length l.s)

abbrev pub decreases-loop-at : goal.decreases-loop-at
decreases-loop-at l = length l.s - l.at
