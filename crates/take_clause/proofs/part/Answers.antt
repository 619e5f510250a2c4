use Rattle.mode_table.specs.Held.{lines_in}
use Rattle.take_clause.proofs.Recorded.{part-nothing, part-some}
use Rattle.take_term.proofs.Laws.{ready_moved}
use Rattle.text_program.specs.Source.{read_body, read_goal}
use mathlib.Core.Path.{refl}
use Rattle.take_clause.proofs.part.Goals as goal

pub returns-in-Absent-clause-taken : goal.returns-in-Absent-clause-taken
returns-in-Absent-clause-taken c = rw c.in-Absent.is (part-nothing (lines_in c.args.relations.now) c.requires.0 c.number-next.ensures refl c.behind.ensures)

pub goal-requires : goal.goal-requires
goal-requires c = ready_moved c.in-Goal.at 0 c.requires.0 c.move_to-v.ensures (rw c.in-Goal.is at c.requires.1)

pub returns-in-Goal-clause-taken : goal.returns-in-Goal-clause-taken
returns-in-Goal-clause-taken c = rw c.in-Goal.is (part-some (lines_in c.args.relations.now) read_goal c.in-Goal.at c.move_to-v.ensures c.goal.ensures.taken)

pub body-requires : goal.body-requires
body-requires c = ready_moved c.in-Body.at 0 c.requires.0 c.move_to-v-in-Body.ensures (rw c.in-Body.is at c.requires.1)

pub returns-in-Body-clause-taken : goal.returns-in-Body-clause-taken
returns-in-Body-clause-taken c = rw c.in-Body.is (part-some (lines_in c.args.relations.now) read_body c.in-Body.at c.move_to-v-in-Body.ensures c.body.ensures.taken)
