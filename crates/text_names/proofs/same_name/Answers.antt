use Rattle.text_names.proofs.Walk.{same_stop, same-differ, same-go}
use native.Mathlib.Omega.{arith}
use mathlib.Core.Path.{sym, ◌∙◌}
use mathlib.Core.Path.{ap}
use mathlib.Core.Bool.{not}
use Rattle.text_names.proofs.same_name.Goals as goal

pub returns-then-not-is_name : goal.returns-then-not-is_name
returns-then-not-is_name c = let p = c.loop-a in same_stop c.args.s.now p.i p.j _ _ c.byte_at-p.ensures.0 c.byte_at-q.ensures.0 c.is_name.result c.is_name-then-not-is_name.result c.is_name.ensures c.is_name-then-not-is_name.ensures (ap not c.if-not-is_name.true) ∙ p.invariant.2

pub returns-then-p-q : goal.returns-then-p-q
returns-then-p-q c = let p = c.loop-a in same-differ c.args.s.now p.i p.j _ _ c.byte_at-p.ensures.0 c.byte_at-q.ensures.0 c.is_name.result c.is_name.ensures (ap not c.if-not-is_name.false) c.if-p-q.true ∙ p.invariant.2

pub loop-a-smaller : goal.loop-a-smaller
loop-a-smaller c = let p = c.loop-a in let w = same-go c.args.s.now p.i p.j _ _ c.byte_at-p.ensures.0 c.byte_at-q.ensures.0 c.is_name.result c.is_name.ensures (ap not c.if-not-is_name.false) c.if-p-q.false in omega arith

pub loop-a-preserved : goal.loop-a-preserved
loop-a-preserved c = let p = c.loop-a in let w = same-go c.args.s.now p.i p.j _ _ c.byte_at-p.ensures.0 c.byte_at-q.ensures.0 c.is_name.result c.is_name.ensures (ap not c.if-not-is_name.false) c.if-p-q.false in (omega arith, omega arith, sym w.0 ∙ p.invariant.2)
