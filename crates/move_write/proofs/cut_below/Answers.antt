use Rattle.move_write.proofs.Writers.{cut_all, cut-none}
use Rattle.move_write.proofs.cut_below.Goals as goal

pub returns-then-cut : goal.returns-then-cut
returns-then-cut c = cut_all _ _ _ c.if-cut.true c.sleep_below.ensures

pub returns-else-cut : goal.returns-else-cut
returns-else-cut c = cut-none _ _ _ c.if-cut.false
