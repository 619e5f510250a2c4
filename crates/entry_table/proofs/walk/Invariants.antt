use Rattle.text_names.specs.Entries.{entry_from}
use mathlib.Core.Path.{◌≡◌}
use Prim.Native.Nat.{◌+◌, ◌-◌, ◌≤◌}
use lib.ListN.{length, drop}
use Rattle.entry_table.proofs.walk.Given as goal

abbrev pub invariant-loop : goal.invariant-loop
invariant-loop l = (l.from + l.counter ≤ l.at) × (l.at ≤ length l.s) × (entry_from (drop l.at l.s) (l.k - l.counter) ≡ entry_from (drop l.from l.s) l.k)
