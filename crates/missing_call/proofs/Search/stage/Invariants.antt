use Prim.Native.Nat.{◌-◌}
use lib.ListN.{drop, length}
use Rattle.text_program.specs.Source.{read_literal, row, row_for}
use Rattle.missing_call.specs.Called.{said_calls}
use Rattle.missing_call.proofs.Walked.{Walked}
use Rattle.missing_call.proofs.Search.stage.Given as goal

abbrev pub invariant-loop : goal.invariant-loop
invariant-loop l = Walked said_calls l.self.text.now l.self.places.now l.self.asked l.initial.v (row read_literal 44 (drop l.initial.v.end l.self.text.now)) l.v (row_for (length l.self.text.now - l.counter) read_literal 44 (drop l.v.end l.self.text.now))
