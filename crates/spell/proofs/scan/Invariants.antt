use Rattle.spell.specs.Rows.{cell_count, kind_count}
use Rattle.spell.specs.Table.{row_run}
use lib.ListN.{length, drop}
use Prim.Native.Nat.{◌+◌, ◌≤◌}
use mathlib.Core.Path.{◌≡◌}
use Rattle.spell.proofs.scan.Given as goal

abbrev pub invariant-loop-i : goal.invariant-loop-i
invariant-loop-i l = (l.row + kind_count ≤ cell_count) × (l.i ≤ length l.text) × (row_run (drop l.i l.text) l.row l.i ≡ row_run l.text kind_count 0)
