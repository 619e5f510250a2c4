use Rattle.rules_and.proofs.Ways.{next-is}
use Rattle.rules_and.proofs.next_stage.Goals as goal

pub returns : goal.returns
returns c = next-is _ c.at_stage-y.ensures c.with_spot.ensures
