use mathlib.Core.List.{◌++◌}
use mathlib.Core.Path.{◌≡◌}
use Prim.Native.Nat.{◌≤◌}
use lib.ListN.{drop}
use Rattle.decide.specs.Decision.{held_by}
use Rattle.parlog.specs.Tables.{vars_in}
use Rattle.parlog.specs.Unify.{held_in}
use Rattle.unify.specs.Pending.{noted_in}
use Rattle.decide.proofs.needed.Given as goal

abbrev pub invariant-loop-c : goal.invariant-loop-c
invariant-loop-c l = (l.s.count ≤ l.c-index) × (noted_in l.s ++ held_in (held_by (vars_in l.vars.bytes.now l.vars.count) l.h) (drop l.c-index l.c-items) ≡ held_in (held_by (vars_in l.vars.bytes.now l.vars.count) l.h) l.c-items)
