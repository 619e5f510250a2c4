use mathlib.Core.Path.{refl}
use native.Mathlib.Omega.{arith}
use Rattle.program_goal.proofs.Homes.{home-clause, home-goal, home-none}
use Rattle.program_goal.proofs.goal_home.Goals as goal

pub returns-then-kind-eq-THE_GOAL : goal.returns-then-kind-eq-THE_GOAL
returns-then-kind-eq-THE_GOAL c = (home-goal c.args.image.now.bytes.now _ _ _ c.if-kind-eq-THE_GOAL.true c.record_at-at.ensures.0 c.byte_at-stages.ensures.0, (omega arith, omega arith, omega arith))

pub returns-then-image-number : goal.returns-then-image-number
returns-then-image-number c = (home-none c.args.image.now.bytes.now _ _ _ c.if-kind-eq-THE_GOAL.false c.if-image-number.true, (omega arith, omega arith, omega arith))

pub returns : goal.returns
returns c = (home-clause c.args.image.now.bytes.now _ _ _ c.args.image.now.indexed.heads c.if-image-number.false c.record_at-clause.ensures.0 c.if-kind-eq-THE_GOAL.false c.part_place-at.ensures.0 c.byte_at-stages-2.ensures.0 c.splits.ensures refl c.stages_left.ensures.0, (omega arith, omega arith, omega arith))
