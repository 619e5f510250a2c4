use Rattle.parlog.specs.Limits.{small}
use Rattle.parlog.specs.Tables.{lent}
use Rattle.run.specs.Running.{Going}
use Rattle.run.proofs.going.Given as goal

abbrev pub invariant-loop-k : goal.invariant-loop-k
invariant-loop-k l = Going small l.image.bytes.now l.image.relations l.image.clauses (lent l.initial.head l.initial.procs l.initial.vars) (lent l.head l.procs l.vars) l.limit l.k
