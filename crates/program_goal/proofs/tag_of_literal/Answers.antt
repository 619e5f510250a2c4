use Rattle.program_goal.proofs.Tags.{tag-literal}
use Rattle.program_goal.proofs.tag_of_literal.Goals as goal

pub returns : goal.returns
returns c = tag-literal _ c.literal-l.ensures.0 c.relation_tag.ensures
