use Rattle.parlog.specs.Program.{program_of}
use Rattle.table_rules.proofs.Places.{goal-own, goal-clause}
use mathlib.Core.Path.{refl}
use Rattle.table_rules.proofs.goal_in.Goals as goal

pub returns-then-z-eq-THE_GOAL : goal.returns-then-z-eq-THE_GOAL
returns-then-z-eq-THE_GOAL c = goal-own (program_of c.args.image.now.bytes.now c.args.image.now.relations c.args.image.now.clauses) c.args.n c.args.z c.if-z-eq-THE_GOAL.true c.goal_vars-size.ensures.0 refl

pub returns : goal.returns
returns c = goal-clause (program_of c.args.image.now.bytes.now c.args.image.now.relations c.args.image.now.clauses) c.args.n c.args.z c.if-z-eq-THE_GOAL.false c.clause_in.ensures
