use Rattle.take_clause.proofs.Recorded.{lay-ask-front}
use Rattle.take_clause.proofs.ask_front.Goals as goal

pub returns : goal.returns
returns c = lay-ask-front c.args.size c.args.vars c.front_of-a.ensures c.number.ensures
