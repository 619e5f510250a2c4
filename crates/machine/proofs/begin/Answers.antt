use Rattle.machine.proofs.Beginning.{begun}
use Rattle.parlog.proofs.Limits.{small-usable}
use Rattle.parlog.specs.Limits.{small}
use Rattle.machine.proofs.begin.Goals as goal

pub returns : goal.returns
unfolding small
returns c = begun _ small-usable _ c.goal_vars-goal.ensures.0 c.goal_vars-goal.ensures.1 _ _ _ _ c.put_head.ensures c.begin_procs.ensures c.requires.2 c.wipe.ensures
