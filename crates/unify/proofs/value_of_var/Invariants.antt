use mathlib.Core.Path.{◌≡◌}
use Prim.Native.Nat.{◌<◌}
use Rattle.parlog.specs.Unify.{value_of}
use Rattle.unify.specs.Pending.{pending, under}
use Rattle.unify.proofs.value_of_var.Given as goal

abbrev pub invariant-loop-t : goal.invariant-loop-t
invariant-loop-t l = (l.a < l.vars.count) × (value_of (under l.vars.bytes.now l.vars.count (pending l.u)) l.v ≡ value_of (under l.vars.bytes.now l.vars.count (pending l.u)) l.a)

abbrev pub decreases-loop-t : goal.decreases-loop-t
decreases-loop-t l = l.a
