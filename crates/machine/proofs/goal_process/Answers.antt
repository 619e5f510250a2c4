use Rattle.machine.proofs.Beginning.{process-new}
use Rattle.machine.proofs.goal_process.Goals as goal

pub returns : goal.returns
returns c = rw (c.new_process.ensures, c.goal_spot-goal.ensures) (process-new _ c.tag_of_goal-tag.ensures)
