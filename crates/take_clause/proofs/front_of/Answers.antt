use Rattle.take_clause.proofs.Recorded.{lay-front}
use Rattle.take_clause.proofs.front_of.Goals as goal

pub returns : goal.returns
returns c = lay-front c.args.size c.args.kind c.word-a.ensures c.word.ensures
