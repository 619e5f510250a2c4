use Prim.Native.Nat.{◌*◌, ◌+◌}
use mathlib.Core.Path.{◌≡◌}
use Rattle.lay.specs.Lay.{Lays}
use Rattle.parlog.specs.Tables.{rows_bytes}
use Rattle.saved.specs.Form.{numbers, process_record}
use Rattle.saved.proofs.put_processes.Given as goal

abbrev pub invariant-loop-i : goal.invariant-loop-i
invariant-loop-i l = (l.next ≡ l.at + l.i * 28) × Lays l.initial.out l.out l.at (rows_bytes (process_record l.procs) (numbers l.i)) l.next
