use mathlib.Core.Path.{◌∙◌, ap}
use mathlib.Core.Bool.{not}
use native.Mathlib.Omega.{arith}
use Rattle.missing_call.proofs.Ordered.{both_go, bytes-differ, compared-end, compared-on, compared-start, first_ends, second-ends}
use Rattle.missing_call.proofs.before.Goals as goal

pub loop-j-init : goal.loop-j-init
loop-j-init c = compared-start c.args.s.now c.args.p c.args.q c.requires.1

pub returns-then-not-is_name : goal.returns-then-not-is_name
returns-then-not-is_name c = second-ends c.args.s.now _ c.loop-j.j _ _ c.byte_at-a.ensures.0 c.byte_at-b.ensures.0 c.is_name.result c.is_name.ensures (ap not c.if-not-is_name.true) ∙ c.loop-j.invariant.same

pub returns-then-not-is_name-2 : goal.returns-then-not-is_name-2
returns-then-not-is_name-2 c = first_ends c.args.s.now _ c.loop-j.j _ _ c.byte_at-a.ensures.0 c.byte_at-b.ensures.0 c.is_name.result c.is_name.ensures (ap not c.if-not-is_name.false) c.is_name-in-loop-j.result c.is_name-in-loop-j.ensures (ap not c.if-not-is_name-2.true) ∙ c.loop-j.invariant.same

pub returns-then-a-b : goal.returns-then-a-b
returns-then-a-b c = bytes-differ c.args.s.now _ c.loop-j.j _ _ c.byte_at-a.ensures.0 c.byte_at-b.ensures.0 c.is_name.result c.is_name.ensures (ap not c.if-not-is_name.false) c.is_name-in-loop-j.result c.is_name-in-loop-j.ensures (ap not c.if-not-is_name-2.false) c.if-a-b.true ∙ c.loop-j.invariant.same

pub loop-j-preserved : goal.loop-j-preserved
loop-j-preserved c = compared-on c.args.s.now c.args.p c.args.q c.loop-j.j c.loop-j.invariant c.loop-j-test.true (both_go c.args.s.now _ c.loop-j.j _ _ c.byte_at-a.ensures.0 c.byte_at-b.ensures.0 c.is_name.result c.is_name.ensures (ap not c.if-not-is_name.false) c.is_name-in-loop-j.result c.is_name-in-loop-j.ensures (ap not c.if-not-is_name-2.false) c.if-a-b.false).0

pub returns : goal.returns
returns c = compared-end c.args.s.now c.args.p c.args.q c.loop-j.j c.loop-j.invariant (omega (arith, c.loop-j-test.false))
