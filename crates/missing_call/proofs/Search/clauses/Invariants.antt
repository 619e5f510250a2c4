use Prim.Native.Nat.{◌-◌}
use lib.ListN.{drop}
use Rattle.text_program.specs.Source.{is_clause, lines_for, read_clause}
use Rattle.missing_call.specs.Called.{clause_calls}
use Rattle.missing_call.proofs.Walked.{Walked}
use Rattle.missing_call.proofs.Search.clauses.Given as goal

abbrev pub invariant-loop : goal.invariant-loop
invariant-loop l = Walked clause_calls l.self.text.now l.self.places.now l.self.asked l.initial.v (lines_for l.left is_clause read_clause (drop l.initial.v.end l.self.text.now)) l.v (lines_for (l.left - l.counter) is_clause read_clause (drop l.v.end l.self.text.now))
