use lib.ListN.{length, drop}
use Prim.Native.Nat.{◌<◌, ◌≤◌}
use mathlib.Core.Path.{◌≡◌}
use Rattle.text_names.specs.Bytes.{back, front}
use Rattle.name_index.specs.Index.{chain_from, chain_of}
use Rattle.name_index.proofs.name_at.Given as goal

abbrev pub invariant-loop-i : goal.invariant-loop-i
invariant-loop-i l = (l.i ≤ length l.s) × (l.h < 512) × (back (drop l.i l.s) ≡ back (drop l.at l.s)) × (chain_from l.h (front (drop l.i l.s)) ≡ chain_of (front (drop l.at l.s)))
