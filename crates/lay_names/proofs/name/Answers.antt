use Rattle.lay_text.proofs.Laws.{name-part}
use Rattle.lay_names.proofs.name.Goals as goal

pub returns : goal.returns
returns c = rw (name-part _ _ _ c.requires c.name_end-end.ensures.1 c.name_end-end.ensures.0) c.word.ensures
