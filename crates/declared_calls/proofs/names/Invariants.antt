use Rattle.declared_calls.proofs.Gathered.{Gathered}
use Rattle.declared_calls.proofs.names.Given as goal

abbrev pub invariant-loop : goal.invariant-loop
invariant-loop l = Gathered l.s l.initial.places l.m l.class l.places l.links l.n l.p
