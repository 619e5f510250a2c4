use mathlib.Core.Path.{◌≡◌}
use Prim.Native.Nat.{◌+◌, ◌*◌}
use lib.ListN.{drop}
use Rattle.lay.specs.Lay.{laid}
use Rattle.unify.specs.Pending.{vars_bound}
use Rattle.bound_row.specs.Row.{twos}
use Rattle.bound_row.proofs.tell.Given as goal

abbrev pub invariant-loop-c : goal.invariant-loop-c
invariant-loop-c l = (l.at ≡ 2 + 2 * l.c-index) × (laid l.out l.at (twos (vars_bound (drop l.c-index l.c-items))) ≡ laid l.initial.out l.initial.at (twos (vars_bound l.c-items)))
