use mathlib.Core.Path.{◌∙◌, sym}
use native.Mathlib.Omega.{arith}
use Rattle.tree.proofs.Family.{above-end, above-met, above_on, above_root, enclosing-starts}
use Rattle.tree.proofs.enclosing.Goals as goal

pub loop-init : goal.loop-init
loop-init c = enclosing-starts _ _ _

pub returns-then-a-eq0 : goal.returns-then-a-eq0
returns-then-a-eq0 c = sym (c.loop.invariant ∙ above_root _ _ _ _ c.loop-test.true c.if-a-eq0.true)

pub returns-then-tag_at-eq-TRY_CLAUSE : goal.returns-then-tag_at-eq-TRY_CLAUSE
returns-then-tag_at-eq-TRY_CLAUSE c = sym (c.loop.invariant ∙ above-met _ _ _ _ c.loop-test.true c.if-a-eq0.false c.parent-over.ensures c.tag_at.ensures c.if-tag_at-eq-TRY_CLAUSE.true)

pub loop-preserved : goal.loop-preserved
loop-preserved c = c.loop.invariant ∙ above_on _ _ _ _ c.loop-test.true c.if-a-eq0.false c.parent-over.ensures c.tag_at.ensures c.if-tag_at-eq-TRY_CLAUSE.false

pub returns : goal.returns
returns c = sym (c.loop.invariant ∙ above-end _ _ _ _ (omega arith))
