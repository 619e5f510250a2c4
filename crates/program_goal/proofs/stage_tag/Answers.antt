use native.Mathlib.Omega.{arith}
use Rattle.program_goal.proofs.Tags.{stage-many, stage-one, tag-literal}
use Rattle.program_goal.proofs.stage_tag.Goals as goal

pub returns-then-n-ne1 : goal.returns-then-n-ne1
returns-then-n-ne1 c = stage-many _ c.stage_size_at-n.ensures.0 c.if-n-ne1.true

pub returns : goal.returns
returns c = stage-one _ c.stage_size_at-n.ensures.0 (omega arith) (tag-literal _ c.literal_at-l.ensures.0 c.relation_tag.ensures)
