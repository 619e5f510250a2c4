use Rattle.tree.proofs.Marking.{child-is, mark-says}
use Rattle.tree.proofs.is_below.Goals as goal

pub returns-then-up-p : goal.returns-then-up-p
returns-then-up-p c = child-is _ _ _ _ c.requires.2 c.requires.0 c.requires.1 c.above-up.ensures c.if-up-p.true

pub returns : goal.returns
returns c = mark-says _ _ _ _ c.requires.2 c.requires.0 c.requires.1 c.above-up.ensures _ c.requires.4 c.if-up-p.false
