use Rattle.lay_text.proofs.Laws.{writes-both}
use Rattle.lay_names.proofs.entry.Goals as goal

pub returns : goal.returns
returns c = writes-both c.name-a.ensures c.put.ensures
