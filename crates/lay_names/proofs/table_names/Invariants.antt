use mathlib.Core.Bool.{true}
use lib.ListN.{drop}
use Rattle.lay_text.specs.Laying.{Left}
use Rattle.read_names.specs.Tables.{names_at}
use Rattle.text_names.specs.Entries.{entries}
use Rattle.lay_names.proofs.table_names.Given as goal

abbrev pub invariant-loop-q : goal.invariant-loop-q
invariant-loop-q l = Left l.initial.out l.initial.to (entries (names_at l.s l.table)) true l.out l.to (entries (names_at l.s (drop l.q-index l.table))) true
