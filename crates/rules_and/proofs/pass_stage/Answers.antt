use Rattle.rules_and.proofs.Ways.{pass-is}
use Rattle.rules_and.proofs.pass_stage.Goals as goal

pub returns : goal.returns
returns c = (pass-is _ _ _ _ c.next_stage-me.ensures c.make.ensures.0, c.make.ensures.1, c.make.ensures.2)
