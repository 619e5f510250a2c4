use Rattle.trace.proofs.Laws.{Clean}
use Rattle.trace.specs.Trace.{trace_size}
use Rattle.std.proofs.Common.{◌*◌, ◌≤◌, length}
use Rattle.trace.proofs.faults.Given as goal

abbrev pub invariant-loop-k : goal.invariant-loop-k
invariant-loop-k l = (l.k * trace_size ≤ length l.s) × Clean l.s l.k
