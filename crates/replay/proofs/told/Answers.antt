use Rattle.replay.proofs.Laws.{told-all, told-not}
use Rattle.replay.proofs.told.Goals as goal

pub returns-then-k-n : goal.returns-then-k-n
returns-then-k-n c = told-all _ _ c.if-k-n.true

pub returns : goal.returns
returns c = told-not _ _ c.if-k-n.false
