use Rattle.mode_table.specs.Held.{lines_in}
use Rattle.take_goal.proofs.Ways.{take-stage}
use Rattle.text_program.specs.Source.{read_literal, row}
use Rattle.take_goal.proofs.stage.Goals as goal

pub returns-clause-taken : goal.returns-clause-taken
returns-clause-taken c = (take-stage (lines_in c.args.relations.now) (row read_literal 44) c.number-a.ensures c.literals-b.ensures.taken c.patch.ensures)
