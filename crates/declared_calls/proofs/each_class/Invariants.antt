use Rattle.declared_calls.proofs.Classes.{Passed}
use Rattle.declared_calls.proofs.each_class.Given as goal

abbrev pub invariant-loop-k : goal.invariant-loop-k
invariant-loop-k l = Passed l.s l.m l.from l.left l.initial.places l.initial.links l.places l.links l.k
