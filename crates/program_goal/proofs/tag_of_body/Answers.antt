use Rattle.program_goal.proofs.Homes.{body-apart, body-whole}
use Rattle.program_goal.proofs.tag_of_body.Goals as goal

pub returns-then-split_by : goal.returns-then-split_by
returns-then-split_by c = body-apart _ _ c.split_by.ensures c.if-split_by.true

pub returns : goal.returns
returns c = body-whole _ _ c.split_by.ensures c.if-split_by.false c.tag_of_goal.ensures
