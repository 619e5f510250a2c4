use Rattle.take_modes.proofs.Walked.{begin-bytes}
use Rattle.take_modes.proofs.begin.Goals as goal

pub returns : goal.returns
returns c = begin-bytes c.args.count c.word-a.ensures c.word-b.ensures c.number.ensures
