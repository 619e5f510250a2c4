use Rattle.text_names.specs.Names.{same_name}
use Rattle.text_names.specs.Bytes.{front}
use mathlib.Core.Path.{◌≡◌}
use Prim.Native.Nat.{◌≤◌, ◌-◌}
use lib.ListN.{length, drop}
use Rattle.text_names.proofs.same_name.Given as goal

abbrev pub invariant-loop-a : goal.invariant-loop-a
invariant-loop-a l = (l.i ≤ length l.s) × (l.j ≤ length l.s) × (same_name (front (drop l.i l.s)) (front (drop l.j l.s)) ≡ same_name (front (drop l.a l.s)) (front (drop l.b l.s)))

abbrev pub decreases-loop-a : goal.decreases-loop-a
decreases-loop-a l = length l.s - l.i
