use Rattle.missing_call.proofs.Ways.{body-none, body-some}
use Rattle.missing_call.proofs.Search.body.Goals as goal

pub returns-then-mark : goal.returns-then-mark
returns-then-mark c = body-none c.args.self.now.places.now c.args.self.now.asked c.requires _ c.byte_at-mark.ensures.0 c.if-mark.true

pub returns : goal.returns
returns c = body-some c.args.self.now.places.now c.args.self.now.asked c.requires _ c.byte_at-mark.ensures.0 c.goal.result c.if-mark.false c.goal.ensures
