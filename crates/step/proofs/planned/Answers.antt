use borrow.Author.Tests.{not-false, not-true}
use native.Mathlib.Omega.{arith}
use Rattle.parlog.specs.Limits.{small}
use Rattle.parlog.proofs.Limits.{small-usable}
use Rattle.step.proofs.Deciding.{fits-asks, rule-asks, small-few, small-rows}
use Rattle.step.proofs.Stepping.{planned-full, planned-made, planned-still}
use Rattle.step.proofs.planned.Goals as goal

pub rule_of-plan-requires : goal.rule_of-plan-requires
rule_of-plan-requires c = rule-asks _ _ _ _ _ c.requires.0 small-usable small-few _ c.requires.1 c.proc_count-n.ensures.0 c.proc_count-n.ensures.1 c.var_count-m.ensures.0 c.requires.2

pub returns-then-not-plan : goal.returns-then-not-plan
returns-then-not-plan c = planned-still _ _ _ _ _ c.requires.0 _ c.requires.1 c.proc_count-n.ensures.0 c.var_count-m.ensures.0 _ c.rule_of-plan.ensures.0 (not-true _ c.if-not-plan.true) c.refusal.ensures

pub fits-requires : goal.fits-requires
unfolding small
fits-requires c = let w = fits-asks _ _ _ _ _ c.requires.0 c.proc_count-n.ensures.0 c.var_count-m.ensures.0 in (omega (arith, w.0), omega (arith, w.1))

pub returns-then-not-fits : goal.returns-then-not-fits
unfolding small
returns-then-not-fits c = planned-full _ _ _ _ _ c.requires.0 _ c.requires.1 c.proc_count-n.ensures.0 c.var_count-m.ensures.0 _ c.rule_of-plan.ensures.0 (not-false _ c.if-not-plan.false) c.fits.ensures (c.if-not-fits.true) c.refusal-then-not-fits.ensures

pub returns : goal.returns
unfolding small
returns c = planned-made _ _ _ _ _ c.requires.0 _ c.requires.1 c.proc_count-n.ensures.0 c.var_count-m.ensures.0 _ c.rule_of-plan.ensures.0 (not-false _ c.if-not-plan.false) c.fits.ensures (c.if-not-fits.false) small-rows c.rule_of-plan.ensures.1 c.rule_of-plan.ensures.3

pub invariant_of-used : goal.invariant_of-used
invariant_of-used c = record { whole = omega (arith, c.requires.0.rows, c.proc_count-n.ensures.0) }

pub invariant_of-cells : goal.invariant_of-cells
invariant_of-cells c = record { whole = omega (arith, c.requires.0.cells, c.var_count-m.ensures.0) }
