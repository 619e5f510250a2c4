use Rattle.load_body.proofs.Goals.{one_end}
use Rattle.parlog.specs.Body.{ask_body}
use Rattle.load_body.proofs.ask_body.Goals as goal

pub returns : goal.returns
unfolding ask_body
returns c = rw (c.eq.ensures, c.goal_range-end.ensures.0, one_end _ _ _, c.word_at-w.ensures.0, c.byte_at-v.ensures.0)
