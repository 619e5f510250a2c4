use native.Mathlib.Omega.{arith}
use mathlib.Core.Path.{◌∙◌, ap, refl, sym}
use Prim.Native.Nat.{◌+◌}
use lib.ListN.{length, take}
use Rattle.lay.proofs.Laws.{laid-length, laid-past}
use Rattle.lay_text.proofs.Laws.{copy_start, copy-turn, part-copied}
use Rattle.lay_text.proofs.copy.Goals as goal

pub loop-k-init : goal.loop-k-init
loop-k-init c = (copy_start c.args.out.now c.args.part.now c.args.at, refl)

pub loop-k-preserved : goal.loop-k-preserved
loop-k-preserved c = let p = c.loop-k in
    let e = copy-turn c.args.out.now c.args.part.now c.args.at p.out p.k _ (omega arith) refl p.invariant.0 in
    (e, ap length e ∙ laid-length (take (p.k + 1) c.args.part.now) _ _)

pub returns-after-loop-k : goal.returns-after-loop-k
returns-after-loop-k c = let a = c.args in part-copied a.out.now a.part.now a.at c.min-n.result c.loop-k.out c.loop-k.k c.if-at-out.true c.min-n.ensures (omega arith) c.loop-k.invariant.0

pub returns-else-at-out : goal.returns-else-at-out
returns-else-at-out c = sym (laid-past c.args.part.now c.args.out.now c.args.at c.if-at-out.false)
