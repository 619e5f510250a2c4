use Rattle.mode_table.specs.Held.{lines_in}
use Rattle.take_goal.proofs.Ways.{goal-row, take-goal}
use Rattle.text_program.specs.Source.{read_literal, row}
use Rattle.take_goal.proofs.goal.Goals as goal

pub returns-clause-taken : goal.returns-clause-taken
returns-clause-taken c = (goal-row (lines_in c.args.relations.now) (take-goal (lines_in c.args.relations.now) (row (row read_literal 44) 38) c.number-a.ensures c.stages-b.ensures.taken c.patch.ensures))
