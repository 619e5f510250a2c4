use Rattle.resume.proofs.Resuming.{decided-refused, decided-tested}
use Rattle.resume.proofs.decided.Goals as goal

pub returns-in_default : goal.returns-in_default
returns-in_default c = decided-refused _ _ _ _ c.load_indexed-l.ensures.value c.in_default.is c.refusal-r.ensures

pub returns : goal.returns
returns c = decided-tested _ _ _ _ c.load_indexed-l.ensures.value c.in-Ok.is c.tested.ensures
