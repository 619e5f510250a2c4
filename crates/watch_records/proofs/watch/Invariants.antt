use Rattle.watch_rows.proofs.Watched.{Quiet}
use Rattle.watch_records.proofs.watch.Given as goal

abbrev pub invariant-loop-i : goal.invariant-loop-i
invariant-loop-i l = Quiet l.rows l.i
