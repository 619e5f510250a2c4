use Rattle.entry_table.proofs.Places.{Thinned}
use Prim.Native.Nat.{◌≤◌}
use Rattle.entry_table.proofs.thin.Given as goal

abbrev pub invariant-loop-k : goal.invariant-loop-k
invariant-loop-k l = Thinned l.initial.table l.table l.k × (l.k ≤ 2561)
