use mathlib.Core.Bool.{true}
use lib.ListN.{drop, length}
use Prim.Native.Nat.{◌-◌, ◌≤◌}
use Rattle.lay_text.specs.Laying.{Left}
use Rattle.read_names.specs.Tables.{mode_names, modes_from}
use Rattle.text_names.specs.Entries.{entries}
use Rattle.text_program.specs.Source.{is_mode_line, lines_for, read_mode_line}
use Rattle.lay_names.proofs.mode_names.Given as goal

abbrev pub invariant-loop : goal.invariant-loop
invariant-loop l = Left l.initial.out l.initial.to (entries (mode_names (modes_from l.s l.at))) true l.out l.to (entries (mode_names (lines_for (length l.s - l.counter) is_mode_line read_mode_line (drop l.p l.s)).value)) true × (l.p ≤ length l.s)
