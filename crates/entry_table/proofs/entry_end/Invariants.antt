use Rattle.text_names.specs.Entries.{behind_entry}
use mathlib.Core.Path.{◌≡◌}
use Prim.Native.Nat.{◌≤◌}
use lib.ListN.{length, drop}
use Rattle.entry_table.proofs.entry_end.Given as goal

abbrev pub invariant-loop-i : goal.invariant-loop-i
invariant-loop-i l = (l.from ≤ l.i) × (l.i ≤ length l.s) × (behind_entry (drop l.i l.s) ≡ behind_entry (drop l.from l.s))
