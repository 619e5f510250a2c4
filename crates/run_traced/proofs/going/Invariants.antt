use Rattle.run_traced.specs.Traced.{GoingTraced}
use Rattle.parlog.specs.Tables.{lent}
use Rattle.parlog.specs.Limits.{small}
use Rattle.run_traced.proofs.going.Given as goal

abbrev pub invariant-loop-k : goal.invariant-loop-k
invariant-loop-k l = GoingTraced small l.image.bytes.now l.image.relations l.image.clauses (lent l.initial.head l.initial.procs l.initial.vars) (lent l.head l.procs l.vars) l.initial.trace l.trace l.limit l.k l.stamp l.next
