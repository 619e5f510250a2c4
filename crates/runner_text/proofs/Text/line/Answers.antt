use Rattle.runner_text.proofs.Lines.{line-is}
use Rattle.runner_text.proofs.Text.line.Goals as goal

pub returns : goal.returns
returns c = line-is _ _ c.term.ensures c.word.ensures c.number.ensures c.word-2.ensures
