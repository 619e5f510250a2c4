use Rattle.move_plan.proofs.Plans.{noted-is}
use Rattle.move_plan.proofs.with_notes.Goals as goal

pub returns : goal.returns
returns c = rw c.number.ensures (noted-is c.args.x c.args.s)
