use Prim.Native.Nat.{◌-◌}
use mathlib.Core.Path.{◌≡◌}
use Rattle.parlog.specs.Tables.{procs_of}
use Rattle.parlog.specs.Tree.{enclosing, try_above}
use Rattle.tree.proofs.enclosing.Given as goal

abbrev pub invariant-loop : goal.invariant-loop
invariant-loop l = enclosing (procs_of l.procs.bytes.now l.procs.count) l.p ≡ try_above (l.procs.count - l.counter) (procs_of l.procs.bytes.now l.procs.count) l.a
