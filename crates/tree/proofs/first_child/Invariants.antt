use Prim.Native.Nat.{◌<◌}
use Rattle.parlog.specs.Tables.{procs_of}
use Rattle.tree.specs.Family.{Childless}
use Rattle.tree.proofs.first_child.Given as goal

abbrev pub invariant-loop-q : goal.invariant-loop-q
invariant-loop-q l = (l.p < l.q) × Childless (procs_of l.procs.bytes.now l.procs.count) l.p l.q
