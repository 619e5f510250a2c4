use native.Mathlib.Omega.{arith}
use Rattle.write_goal.proofs.Rowed.{row-start, row-stop, row-turn, stage-told}
use Rattle.write_goal.proofs.stage.Goals as goal

pub loop-k-init : goal.loop-k-init
loop-k-init c = (row-start _ _ _ _ _ _ _ _, omega arith, omega arith)

pub loop-k-preserved : goal.loop-k-preserved
loop-k-preserved c = (rw c.byte_at.ensures.0 (row-turn _ _ _ _ _ _ c.loop-k.k c.loop-k.at c.loop-k-test.true c.loop-k.invariant.0 c.lead.ensures c.literal.ensures), omega arith, omega arith)

pub returns : goal.returns
returns c = stage-told c.args.s.now.relations c.args.s.now.names.row.now c.args.s.now.image.now c.args.from _ c.byte_at-n.ensures.0 (row-stop _ _ _ _ _ _ c.loop-k.k c.loop-k.at (omega arith) c.loop-k.invariant.0)
