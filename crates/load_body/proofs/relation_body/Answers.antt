use Rattle.parlog.specs.Body.{relation_body}
use Rattle.load_body.proofs.relation_body.Goals as goal

pub returns : goal.returns
unfolding relation_body
returns c = rw (c.modes_range-modes.ensures, c.word_at-w.ensures.0, c.byte_at-a.ensures.0)
