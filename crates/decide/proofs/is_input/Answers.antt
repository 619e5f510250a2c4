use mathlib.Core.Path.{refl, ◌∙◌}
use native.Mathlib.Omega.{arith}
use Rattle.decide.proofs.Laws.{input-done, input-hit, input-miss}
use Rattle.decide.proofs.Pairs.{top-shifted}
use Rattle.decide.proofs.is_input.Goals as goal

pub shift-t-requires : goal.shift-t-requires
shift-t-requires c = omega (arith, c.requires.1 c.loop-i.i c.loop-i-test.true)

pub value_of-x-requires : goal.value_of-x-requires
value_of-x-requires c = top-shifted _ _ _ c.shift-t.ensures (c.requires.1 c.loop-i.i c.loop-i-test.true)

pub returns-then-call-i : goal.returns-then-call-i
returns-then-call-i c = input-hit _ _ _ _ _ _ _ (omega arith) (omega arith) c.loop-i-test.true c.shift-t.ensures c.value_of-x.ensures c.is_var-yes.ensures refl c.if-call-i.true ∙ c.loop-i.invariant

pub loop-i-preserved : goal.loop-i-preserved
loop-i-preserved c = input-miss _ _ _ _ _ _ _ (omega arith) (omega arith) c.loop-i-test.true c.shift-t.ensures c.value_of-x.ensures c.is_var-yes.ensures refl c.if-call-i.false ∙ c.loop-i.invariant

pub returns : goal.returns
returns c = input-done _ _ _ _ _ _ _ (omega arith) (omega arith) c.loop-i-test.false ∙ c.loop-i.invariant
