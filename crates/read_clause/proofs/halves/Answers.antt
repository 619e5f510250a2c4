use Rattle.read_clause.proofs.Parted.{no_halves, body-only, both_halves}
use Rattle.read_clause.proofs.halves.Goals as goal

pub returns-then-byte_at-ne-ARROW : goal.returns-then-byte_at-ne-ARROW
returns-then-byte_at-ne-ARROW c = no_halves c.args.s.now c.args.at _ c.requires c.byte_at.ensures.0 c.if-byte_at-ne-ARROW.true

pub returns-then-byte_at-ne-COLON : goal.returns-then-byte_at-ne-COLON
returns-then-byte_at-ne-COLON c = body-only c.args.s.now c.args.at _ c.requires c.byte_at.ensures.0 c.behind_arrow-from.result c.goal-first.result.end _ c.if-byte_at-ne-ARROW.false c.behind_arrow-from.ensures.0 c.behind_arrow-from.ensures.1 c.goal-first.ensures.end c.goal-first.ensures.inside c.byte_at-2.ensures.0 c.goal-first.result.right c.if-byte_at-ne-COLON.true c.goal-first.ensures.right

pub returns : goal.returns
returns c = both_halves c.args.s.now c.args.at _ c.requires c.byte_at.ensures.0 c.behind_arrow-from.result c.goal-first.result.end _ c.if-byte_at-ne-ARROW.false c.behind_arrow-from.ensures.0 c.behind_arrow-from.ensures.1 c.goal-first.ensures.end c.goal-first.ensures.inside c.byte_at-2.ensures.0 c.after_mark-behind.result c.body-second.result.end c.goal-first.result.right c.body-second.result.right c.if-byte_at-ne-COLON.false c.after_mark-behind.ensures.0 c.after_mark-behind.ensures.1 c.body-second.ensures.end c.body-second.ensures.inside c.goal-first.ensures.right c.body-second.ensures.right
