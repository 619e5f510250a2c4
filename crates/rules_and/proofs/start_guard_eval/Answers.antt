use Rattle.rules_and.proofs.Ways.{guard-ends, guard-starts}
use Rattle.rules_and.proofs.start_guard_eval.Goals as goal

pub returns-then-size-eq0 : goal.returns-then-size-eq0
returns-then-size-eq0 c = (guard-ends _ _ _ _ c.goal_size-size.ensures.0 c.if-size-eq0.true c.report.ensures.0, c.report.ensures.1, c.report.ensures.2)

pub returns : goal.returns
returns c = (guard-starts _ _ _ _ c.goal_size-size.ensures.0 c.if-size-eq0.false c.goal_spot-y.ensures c.tag_of_goal-t.ensures c.new_process-child.ensures c.with_mode-me.ensures c.make_one.ensures.0, c.make_one.ensures.1, c.make_one.ensures.2)
