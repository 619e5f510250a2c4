use Rattle.rows.proofs.Tables.{procs-none}
use Rattle.move_plan.proofs.only.Goals as goal

pub returns : goal.returns
returns c = (rw procs-none at c.make.ensures.0, c.make.ensures.1, c.make.ensures.2)
