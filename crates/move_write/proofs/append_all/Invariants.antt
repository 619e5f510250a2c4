use mathlib.Core.List.{◌++◌}
use Rattle.parlog.specs.Tables.{procs_of}
use Rattle.rows.specs.Rows.{Table}
use Rattle.move_write.proofs.append_all.Given as goal

abbrev pub invariant-loop-i : goal.invariant-loop-i
invariant-loop-i l = Table l.initial.procs l.procs (procs_of l.initial.procs l.n ++ procs_of l.rows l.i)
