use Rattle.take_goal.proofs.Ways.{puts-told}
use Rattle.take_goal.proofs.number.Goals as goal

pub returns : goal.returns
returns c = puts-told c.args.w c.args.n c.number-next.result c.number-next.ensures
