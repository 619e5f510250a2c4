use Rattle.missing_call.proofs.Ways.{text-seen}
use Rattle.missing_call.proofs.Walked.{within_of}
use Rattle.missing_call.proofs.Search.least.Goals as goal

pub body-requires : goal.body-requires
body-requires c = rw c.moved.ensures (within_of c.behind_arrow-arrow.ensures.1 c.clauses-c.ensures.within)

pub returns : goal.returns
returns c = text-seen c.args.self.now.text.now c.args.self.now.places.now c.args.self.now.asked c.args.from c.args.left c.clauses-c.result c.moved.result c.body.result c.behind_arrow-arrow.result c.clauses-c.ensures c.behind_arrow-arrow.ensures.0 c.moved.ensures c.body.ensures
