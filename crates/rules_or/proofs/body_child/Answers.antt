use Rattle.rules_or.proofs.Ways.{body-made}
use Rattle.rules_or.proofs.body_child.Goals as goal

pub returns : goal.returns
returns c = body-made _ _ _ _ c.tag_of_body-t.ensures c.goal_spot-z.ensures c.new_process.ensures
