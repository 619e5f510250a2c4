use mathlib.Core.Path.{◌≡◌}
use lib.ListN.{length}
use Rattle.lay.specs.Lay.{laid}
use Rattle.parlog.specs.Tables.{rows_bytes, zeros}
use Rattle.saved.specs.Restored.{process_in}
use Rattle.saved.specs.Form.{numbers}
use Rattle.saved.proofs.take_processes.Given as goal

abbrev pub invariant-loop-i : goal.invariant-loop-i
invariant-loop-i l = l.procs ≡ laid (zeros (length l.initial.procs)) 0 (rows_bytes (process_in l.s) (numbers l.i))
