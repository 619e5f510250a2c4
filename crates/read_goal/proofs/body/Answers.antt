use Rattle.read_goal.proofs.Spanned.{body-none, body-some}
use Rattle.read_goal.proofs.body.Goals as goal

pub returns-then-mark : goal.returns-then-mark
returns-then-mark c = body-none c.args.s.now c.args.at _ c.byte_at-mark.ensures.0 c.requires c.if-mark.true

pub returns : goal.returns
returns c = body-some c.args.s.now c.args.at _ c.byte_at-mark.ensures.0 _ c.if-mark.false c.goal.ensures
