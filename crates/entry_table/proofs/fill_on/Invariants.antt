use Rattle.entry_table.specs.Entered.{Entered}
use mathlib.Core.Path.{◌≡◌}
use Prim.Native.Nat.{◌-◌, ◌≤◌}
use lib.ListN.{get_or, length}
use Rattle.entry_table.proofs.fill_on.Given as goal

abbrev pub invariant-loop-count : goal.invariant-loop-count
invariant-loop-count l = Entered l.names l.table l.every l.count × (get_or l.table (l.count - 1) 0 ≡ l.at) × (l.at ≤ length l.names)
