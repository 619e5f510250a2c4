use Rattle.parlog.specs.Program.{program_of}
use Rattle.table_rules.proofs.Places.{goal-stage, goal-none, goal-literal}
use mathlib.Core.Bool.{◌||◌, cond}
use mathlib.Core.Path.{◌≡◌, refl}
use lib.Dec.{eqb, leb, ltb}
use Rattle.table_rules.proofs.behind_goal.Goals as goal
use Rattle.table_rules.proofs.behind_goal.Goals.{then-t-waits, else-t-waits}

pub returns-then-t-lt-OR_PAR : goal.returns-then-t-lt-OR_PAR
returns-then-t-lt-OR_PAR c =
    let there : c.if-t-waits.there ≡ cond (eqb c.args.t 0 || c.args.waits) (ltb c.args.z.stage c.goal_size-stages.result) (leb c.args.z.stage c.goal_size-stages.result) = elim c.if-t-waits.branch [
      | then-t-waits w ↦ rw w.if-t-waits.true w.there-is
      | else-t-waits w ↦ rw w.if-t-waits.false w.there-is
    ] in
    goal-stage (program_of c.args.image.now.bytes.now c.args.image.now.relations c.args.image.now.clauses) c.args.n c.args.z c.args.waits c.args.t c.if-t-lt-OR_PAR.true c.goal_size-stages.ensures.0 refl there c.split_by-split.ensures refl refl

pub returns-then-size-z : goal.returns-then-size-z
returns-then-size-z c = goal-none (program_of c.args.image.now.bytes.now c.args.image.now.relations c.args.image.now.clauses) c.args.n c.args.z c.args.waits c.args.t c.if-t-lt-OR_PAR.false c.called-x.ensures.0 c.if-size-z.true

pub returns : goal.returns
returns c = goal-literal (program_of c.args.image.now.bytes.now c.args.image.now.relations c.args.image.now.clauses) c.args.n c.args.z c.args.waits c.args.t c.if-t-lt-OR_PAR.false c.called-x.ensures.0 c.if-size-z.false c.called-x.ensures.1 c.behind_literal.ensures
