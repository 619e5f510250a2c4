use mathlib.Core.List.{[]}
use mathlib.Core.Path.{◌≡◌}
use Prim.Native.Nat.{◌≤◌}
use lib.ListN.{drop}
use Rattle.parlog.specs.Tables.{vars_in}
use Rattle.parlog.specs.Unify.{bound, unify_from}
use Rattle.unify.specs.Pending.{pending}
use Rattle.unify.proofs.unify.Given as goal

abbrev pub invariant-loop-p : goal.invariant-loop-p
invariant-loop-p l = (l.u.count ≤ l.p-index) × (unify_from (vars_in l.vars.bytes.now l.vars.count) (bound (pending l.u)) (drop l.p-index l.p-items) ≡ unify_from (vars_in l.vars.bytes.now l.vars.count) (bound []) l.p-items)
