use Rattle.runner_text.proofs.Lines.{ran-is}
use Rattle.runner_text.proofs.Text.ran.Goals as goal

pub returns : goal.returns
returns c = ran-is _ _ c.put.ensures c.end_word.ensures c.word.ensures c.number.ensures c.word-2.ensures
