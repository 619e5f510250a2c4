use Rattle.parlog.specs.Program.{program_of}
use Rattle.table_rules.proofs.Places.{placed-guard, placed-none, placed-rest}
use mathlib.Core.Path.{refl}
use Rattle.table_rules.proofs.placed_ok.Goals as goal

pub returns-then-x-eq-GUARD_EVAL : goal.returns-then-x-eq-GUARD_EVAL
returns-then-x-eq-GUARD_EVAL c = placed-guard (program_of c.args.image.now.bytes.now c.args.image.now.relations c.args.image.now.clauses) c.args.n c.args.x c.if-x-eq-GUARD_EVAL.true c.clause_in.ensures

pub returns-then-not-there : goal.returns-then-not-there
returns-then-not-there c = placed-none (program_of c.args.image.now.bytes.now c.args.image.now.relations c.args.image.now.clauses) c.args.n c.args.x c.if-x-eq-GUARD_EVAL.false refl refl refl c.goal_in-goal.ensures c.told_ok-found.ensures refl (c.if-not-there.true)

pub returns : goal.returns
returns c = placed-rest (program_of c.args.image.now.bytes.now c.args.image.now.relations c.args.image.now.clauses) c.args.n c.args.x c.if-x-eq-GUARD_EVAL.false refl refl refl c.goal_in-goal.ensures c.told_ok-found.ensures refl (c.if-not-there.false) c.behind_goal.ensures
