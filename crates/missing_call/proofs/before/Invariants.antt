use Rattle.missing_call.proofs.Ordered.{Compared}
use Rattle.missing_call.proofs.before.Given as goal

abbrev pub invariant-loop-j : goal.invariant-loop-j
invariant-loop-j l = Compared l.s l.p l.q l.j
