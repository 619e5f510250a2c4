use Rattle.run.proofs.Turning.{run_ran, run-refused}
use Rattle.run.proofs.run.Goals as goal

pub returns-in_default : goal.returns-in_default
returns-in_default c = run-refused _ _ _ c.enter-e.ensures.enter_says _ c.in_default.is c.refusal-r.ensures

pub returns : goal.returns
returns c = run_ran _ _ _ c.enter-e.ensures.enter_says _ c.in-Ok.is c.going.ensures
