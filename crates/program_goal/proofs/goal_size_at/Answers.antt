use native.Mathlib.Omega.{arith}
use Rattle.program_goal.proofs.Goals.{goal-alone, goal-empty, goal-own}
use Rattle.program_goal.proofs.goal_size_at.Goals as goal

pub returns-then-stages-ne0 : goal.returns-then-stages-ne0
returns-then-stages-ne0 c = (goal-own c.args.image.now.bytes.now _ c.args.h c.if-stages-ne0.true, omega arith)

pub returns-then-count-eq0 : goal.returns-then-count-eq0
returns-then-count-eq0 c = (goal-empty c.args.image.now.bytes.now _ c.args.h (omega (arith, c.if-stages-ne0.false)) c.outs_before-outs.ensures.0 c.if-count-eq0.true, omega arith)

pub returns-else-count-eq0 : goal.returns-else-count-eq0
returns-else-count-eq0 c = (goal-alone c.args.image.now.bytes.now _ c.args.h (omega (arith, c.if-stages-ne0.false)) c.outs_before-outs.ensures.0 c.if-count-eq0.false, omega arith)
