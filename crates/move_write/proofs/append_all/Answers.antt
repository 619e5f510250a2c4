use Rattle.move_write.proofs.Writers.{all-next, all_start}
use Rattle.move_write.proofs.append_all.Goals as goal

pub loop-i-init : goal.loop-i-init
loop-i-init c = all_start _ _ _

pub loop-i-preserved : goal.loop-i-preserved
loop-i-preserved c = all-next _ _ _ _ _ _ c.loop-i-test.true c.loop-i.invariant c.get-x.ensures c.append.ensures
