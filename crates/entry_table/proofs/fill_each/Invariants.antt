use Rattle.entry_table.proofs.Places.{Among}
use Rattle.entry_table.specs.Entered.{table_size}
use mathlib.Core.Path.{◌≡◌}
use lib.ListN.{length}
use Rattle.entry_table.proofs.fill_each.Given as goal

abbrev pub invariant-loop-i : goal.invariant-loop-i
invariant-loop-i l = Among l.names l.table l.n l.i × (length l.table ≡ table_size)
