use Rattle.machine.proofs.Beginning.{begun-procs}
use native.Mathlib.Omega.{arith}
use Rattle.parlog.proofs.Limits.{small-usable}
use Rattle.parlog.specs.Limits.{small}
use Rattle.machine.proofs.begin_procs.Goals as goal

pub returns : goal.returns
unfolding small
returns c = begun-procs _ small-usable _ _ _ _ c.requires c.wipe.ensures c.goal_process-x.ensures c.append.ensures (λ b. omega (arith, c.type_inv.procs b))
