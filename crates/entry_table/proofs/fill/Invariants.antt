use Rattle.entry_table.specs.Entered.{Entered}
use Prim.Native.Nat.{◌-◌}
use Rattle.entry_table.proofs.fill.Given as goal

abbrev pub invariant-loop-every : goal.invariant-loop-every
invariant-loop-every l = Entered l.names l.table l.every l.count

abbrev pub decreases-loop-every : goal.decreases-loop-every
decreases-loop-every l = 8 - l.every
