use Rattle.move_write.proofs.Writers.{nap-none, nap-one}
use Rattle.move_write.proofs.nap_at.Goals as goal

pub returns-in-Some : goal.returns-in-Some
returns-in-Some c = nap-one _ _ c.in-Some.is c.sleep_at.ensures

pub returns-in-None : goal.returns-in-None
returns-in-None c = nap-none _ _ c.in-None.is
