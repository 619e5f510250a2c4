use mathlib.Core.Path.{◌≡◌}
use lib.ListN.{drop}
use Rattle.unify.specs.Pending.{latest}
use Rattle.unify.proofs.found_in.Given as goal

abbrev pub invariant-loop-c : goal.invariant-loop-c
invariant-loop-c l = latest (drop l.c-index l.c-items) l.b l.v ≡ latest l.c-items l.initial.b l.v
