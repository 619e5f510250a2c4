use Rattle.rules_and.proofs.Ways.{readied}
use Rattle.rules_and.proofs.ready.Goals as goal

pub returns : goal.returns
returns c = (readied _ _ c.with_mode-me.ensures c.only.ensures.0, c.only.ensures.1, c.only.ensures.2)
