use Rattle.move_plan.proofs.Made.{touch-mover, touch-next}
use Rattle.move_plan.proofs.touched.Goals as goal

pub returns-then-k-eq0 : goal.returns-then-k-eq0
returns-then-k-eq0 c = touch-mover _ _ _ c.if-k-eq0.true

pub returns-else-k-eq0 : goal.returns-else-k-eq0
returns-else-k-eq0 c = touch-next _ _ _ c.if-k-eq0.false
