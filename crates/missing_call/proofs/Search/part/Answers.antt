use Rattle.missing_call.proofs.Walked.{within_of}
use Rattle.missing_call.proofs.Ways.{part_none, part_some}
use Rattle.text_program.specs.Source.{read_body, read_goal}
use Rattle.missing_call.proofs.Search.part.Goals as goal

pub returns-in-Absent : goal.returns-in-Absent
returns-in-Absent c = rw c.in-Absent.is (part_none c.args.self.now.places.now c.args.self.now.asked c.requires.0)

pub goal-requires : goal.goal-requires
goal-requires c = rw c.moved.ensures (within_of (rw c.in-Goal.is at c.requires.1) c.requires.0.within)

pub returns-in-Goal : goal.returns-in-Goal
returns-in-Goal c = rw c.in-Goal.is (part_some c.args.self.now.text.now c.args.self.now.places.now c.args.self.now.asked c.args.w read_goal c.in-Goal.at c.moved.ensures c.goal.ensures)

pub body-requires : goal.body-requires
body-requires c = rw c.moved-in-Body.ensures (within_of (rw c.in-Body.is at c.requires.1) c.requires.0.within)

pub returns-in-Body : goal.returns-in-Body
returns-in-Body c = rw c.in-Body.is (part_some c.args.self.now.text.now c.args.self.now.places.now c.args.self.now.asked c.args.w read_body c.in-Body.at c.moved-in-Body.ensures c.body.ensures)
