use Rattle.parlog.specs.Tables.{procs_of}
use Rattle.watch_rows.proofs.Watched.{Quiet}
use Rattle.watch_rows.proofs.watch_rows.Given as goal

abbrev pub invariant-loop-q : goal.invariant-loop-q
invariant-loop-q l = Quiet (procs_of l.procs l.n) l.q
