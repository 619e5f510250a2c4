use Rattle.mode_table.specs.Held.{lines_in}
use Rattle.take_goal.proofs.Ways.{take-call}
use Rattle.take_goal.proofs.call.Goals as goal

pub returns-clause-taken : goal.returns-clause-taken
returns-clause-taken c = (take-call (lines_in c.args.relations.now) c.find-entry.result c.args.behind _ _ c.unwrap_or.ensures c.is_some.ensures c.find-entry.ensures c.requires.1 c.number-a.ensures c.number-b.ensures c.move_to-from.ensures c.terms-c.ensures.taken c.patch.ensures)
