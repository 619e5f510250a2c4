use Rattle.missing_call.proofs.Walked.{within_of}
use Rattle.missing_call.proofs.Ways.{clause-seen}
use Rattle.missing_call.proofs.Search.clause.Goals as goal

pub part-guard-requires : goal.part-guard-requires
part-guard-requires c = (within_of (rw c.call-head.ensures.2 c.requires.inside) c.call-head.ensures.1, c.clause-c.ensures.guard_in)

pub part-body-requires : goal.part-body-requires
part-body-requires c = (within_of c.part-guard.ensures.inside c.part-guard.ensures.within, c.clause-c.ensures.body_in)

pub returns : goal.returns
returns c = rw c.moved.ensures (clause-seen c.args.self.now.text.now c.args.self.now.places.now c.args.self.now.asked c.args.w c.clause-c.result c.call-head.result c.part-guard.result c.part-body.result c.clause-c.ensures c.call-head.ensures c.part-guard.ensures c.part-body.ensures)
