use Rattle.rules_and.proofs.Ways.{seq-ends, seq-starts}
use Rattle.rules_and.proofs.start_and_seq.Goals as goal

pub returns-then-stages-i : goal.returns-then-stages-i
returns-then-stages-i c = (seq-ends _ _ _ _ c.goal_size-stages.ensures.0 c.if-stages-i.true c.report.ensures.0, c.report.ensures.1, c.report.ensures.2)

pub returns : goal.returns
returns c = (seq-starts _ _ _ _ c.goal_size-stages.ensures.0 c.if-stages-i.false c.tag_of_stage-t.ensures c.literal_spot-y.ensures c.new_process-child.ensures c.with_mode-me.ensures c.make_one.ensures.0, c.make_one.ensures.1, c.make_one.ensures.2)
