use Rattle.declared_calls.proofs.Turns.{turn_end, turn-less, turn_on, turn-start, turn-stop}
use Rattle.declared_calls.proofs.Table.class_declared.Goals as goal

pub loop-at-init : goal.loop-at-init
loop-at-init c = turn-start c.args.self.now.declares

pub returns-in_default : goal.returns-in_default
returns-in_default c = turn_end c.args.self.now.declares c.loop-at.invariant c.in_default.ensures.0

pub returns-then-is_none : goal.returns-then-is_none
returns-then-is_none c = turn-stop c.args.self.now.declares c.loop-at.invariant c.in-Some.at c.in-Some.ensures.0 c.relation.result c.relation.ensures c.is_none.result c.is_none.ensures c.if-is_none.true

pub loop-at-smaller : goal.loop-at-smaller
loop-at-smaller c = turn-less c.args.self.now.declares c.loop-at.invariant c.in-Some.at c.in-Some.ensures.0 c.relation.result c.relation.ensures

pub loop-at-preserved : goal.loop-at-preserved
loop-at-preserved c = turn_on c.args.self.now.declares c.loop-at.invariant c.in-Some.at c.in-Some.ensures.0 c.relation.result c.relation.ensures c.is_none.result c.is_none.ensures c.if-is_none.false c.in-Some.ensures.1
