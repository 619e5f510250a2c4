use Rattle.lay_literal.proofs.Laid.{lows-two}
use Rattle.lay_literal.proofs.word.Goals as goal

pub returns : goal.returns
returns c = lows-two c.args.n c.number-a.ensures c.number.ensures
