use Rattle.trace.proofs.Laws.{Steady}
use Rattle.trace.proofs.first_gap.Given as goal

abbrev pub invariant-loop-k : goal.invariant-loop-k
invariant-loop-k l = Steady l.s l.k
