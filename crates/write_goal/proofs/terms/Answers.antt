use native.Mathlib.Omega.{arith}
use Rattle.write_goal.proofs.Rowed.{row-start, row-stop, row-turn}
use Rattle.write_goal.proofs.terms.Goals as goal

pub loop-k-init : goal.loop-k-init
loop-k-init c = (row-start _ _ _ _ _ _ _ _, omega arith, omega arith)

pub loop-k-preserved : goal.loop-k-preserved
loop-k-preserved c = (row-turn _ _ _ _ _ _ c.loop-k.k c.loop-k.at c.loop-k-test.true c.loop-k.invariant.0 c.lead.ensures c.term.ensures, omega arith, omega arith)

pub returns : goal.returns
returns c = row-stop _ _ _ _ _ _ c.loop-k.k c.loop-k.at (omega arith) c.loop-k.invariant.0
