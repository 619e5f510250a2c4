use Rattle.parlog.specs.Limits.{small}
use Rattle.parlog.specs.Tables.{lent}
use Rattle.replay.specs.Replay.{PlayGoing}
use Rattle.replay.proofs.play.Given as goal

abbrev pub invariant-loop-k : goal.invariant-loop-k
invariant-loop-k l = PlayGoing small l.image.bytes.now l.image.relations l.image.clauses (lent l.initial.head l.initial.procs l.initial.vars) (lent l.head l.procs l.vars) l.trace l.n l.k
