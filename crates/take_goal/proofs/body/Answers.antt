use Rattle.mode_table.specs.Held.{lines_in}
use Rattle.take_goal.proofs.Ways.{body-none, body-some}
use Rattle.take_goal.proofs.body.Goals as goal

pub returns-then-mark-clause-taken : goal.returns-then-mark-clause-taken
returns-then-mark-clause-taken c = (body-none (lines_in c.args.relations.now) _ c.byte_at-mark.ensures.0 c.if-mark.true c.requires c.move_to.ensures c.number.ensures)

pub returns-clause-taken : goal.returns-clause-taken
returns-clause-taken c = (body-some (lines_in c.args.relations.now) _ c.byte_at-mark.ensures.0 c.if-mark.false c.goal.ensures.taken)
