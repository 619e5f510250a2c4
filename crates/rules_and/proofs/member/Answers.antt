use Rattle.rules_and.proofs.Ways.{member_is}
use Rattle.rules_and.proofs.member.Goals as goal

pub returns : goal.returns
returns c = member_is _ _ _ _ c.literal_spot-y.ensures c.tag_of_literal-t.ensures c.new_process.ensures
