use Rattle.std.proofs.Common.{◌∙◌}
use Rattle.saved.proofs.Following.{follows-none, follows-some}
use Rattle.saved.proofs.Kind.may_follow.Goals as goal

pub returns-in-None : goal.returns-in-None
returns-in-None c = rw c.in-None.is (c.is_head.ensures ∙ follows-none c.args.self)

pub returns-in-Some : goal.returns-in-Some
returns-in-Some c = rw (c.in-Some.is, c.number.ensures.0, c.number-in-Some.ensures.0) (follows-some c.in-Some.kind c.args.self c.is_head-in-Some.ensures)
