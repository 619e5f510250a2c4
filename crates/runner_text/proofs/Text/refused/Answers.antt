use Rattle.runner_text.proofs.Lines.{refused-is}
use Rattle.runner_text.proofs.Text.refused.Goals as goal

pub returns : goal.returns
returns c = refused-is c.args.r c.requires.0 c.put.ensures c.number.ensures c.word.ensures (rw c.from.ensures at c.number-2.ensures) c.word-2.ensures
