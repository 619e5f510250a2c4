use Rattle.move_plan.proofs.Made.{one-made}
use Rattle.move_plan.proofs.make_one.Goals as goal

pub returns : goal.returns
returns c = (one-made _ c.append.ensures c.make.ensures.0, c.make.ensures.1, c.make.ensures.2)
