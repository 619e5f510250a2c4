use Rattle.entry_table.proofs.Places.{next-entered, next_last}
use native.Mathlib.Omega.{arith}
use Rattle.entry_table.proofs.fill_on.Goals as goal

pub loop-count-preserved : goal.loop-count-preserved
loop-count-preserved c = let p = c.loop-count in let h = p.invariant.0.fits in (next-entered _ _ _ p.count _ _ p.invariant.0 (omega arith) p.invariant.1 c.walk-at.ensures.0 c.walk-at.ensures.1, next_last p.table p.count c.walk-at.result (omega arith), c.walk-at.ensures.1)
