use Rattle.rules_and.proofs.Ways.{not_stopped, stopped}
use Rattle.rules_and.proofs.stop.Goals as goal

pub returns-then-p-eq0 : goal.returns-then-p-eq0
returns-then-p-eq0 c = (stopped _ _ c.if-p-eq0.true c.with_mode-me.ensures c.only.ensures.0, c.only.ensures.1, c.only.ensures.2)

pub returns : goal.returns
returns c = (not_stopped _ _ c.if-p-eq0.false c.none.ensures.0, c.none.ensures.1, c.none.ensures.2)
