use Rattle.run_traced.proofs.Noting.{run_away, run-noted}
use Rattle.run_traced.proofs.run_traced.Goals as goal

pub returns-in_default : goal.returns-in_default
returns-in_default c = run_away _ _ _ _ _ _ c.enter-e.ensures.enter_says c.in_default.is c.refusal-r.ensures

pub returns : goal.returns
returns c = run-noted _ _ _ _ _ _ c.enter-e.ensures.enter_says c.in-Ok.is c.moves_for-most.ensures.0 c.going.ensures
