use Rattle.entry_table.proofs.Places.{found}
use Rattle.entry_table.proofs.Names.find.Goals as goal

pub returns : goal.returns
returns c = (found _ _ _ _ _ _ c.walk.result c.args.self.now.entered c.nearest-q.ensures.0 c.nearest-q.ensures.1 c.walk.ensures.0, c.walk.ensures.1)
