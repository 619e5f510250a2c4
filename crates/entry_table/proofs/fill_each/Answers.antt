use Rattle.entry_table.proofs.Places.{among-start, among-turn}
use native.Mathlib.Omega.{arith}
use mathlib.Core.Path.{◌∙◌, refl}
use Prim.Native.Nat.{◌+◌}
use lib.ListN.{length-set}
use Rattle.entry_table.proofs.fill_each.Goals as goal

pub loop-i-init : goal.loop-i-init
loop-i-init c = (among-start _ _ c.args.table.now (omega arith) refl, length-set c.args.table.now 0 0 ∙ c.told-table)

pub loop-i-preserved : goal.loop-i-preserved
loop-i-preserved c = let p = c.loop-i in let h = p.invariant.0.entered.fits in let n = c.if-n-eq-PLACES.false in
    (among-turn _ _ _ _ _ c.loop-i-test.true (omega arith) c.from-n.ensures p.invariant.0, length-set p.table p.n (p.i + 1) ∙ p.invariant.1)
