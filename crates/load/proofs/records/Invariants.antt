use mathlib.Core.Path.{◌≡◌}
use Prim.Native.Nat.{◌-◌}
use lib.ListN.{length}
use Rattle.parlog.specs.Load.{nothing_read, records}
use Rattle.load.specs.Bounds.{Small}
use Rattle.load_names.specs.Reading.{Arities}
use Rattle.load.proofs.Indexing.{Holds}
use Rattle.load.proofs.Accepted.{Reached}
use Rattle.load.proofs.records.Given as goal

abbrev pub invariant-loop-at : goal.invariant-loop-at
invariant-loop-at l = (records l.s (length l.s) l.at l.g ≡ records l.s (length l.s) 0 nothing_read) × Small l.g × Reached l.s l.g l.at × Arities l.s l.g.relations l.arities × (length l.arities ≡ 33) × Holds l.s l.g l.ix

abbrev pub decreases-loop-at : goal.decreases-loop-at
decreases-loop-at l = length l.s - l.at
