use Rattle.move_write.proofs.Writers.{sleep-none, sleep-one}
use Rattle.move_write.proofs.sleep_at.Goals as goal

pub returns-then-c-n : goal.returns-then-c-n
returns-then-c-n c = sleep-one _ _ _ c.get-x.ensures c.with_mode-y.ensures c.put.ensures

pub returns-else-c-n : goal.returns-else-c-n
returns-else-c-n c = sleep-none _ _ _ c.if-c-n.false
