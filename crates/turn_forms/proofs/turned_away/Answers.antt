use Rattle.turn_forms.proofs.Core.{away-accepted, away-refused}
use Rattle.turn_forms.proofs.turned_away.Goals as goal

pub returns-in_default : goal.returns-in_default
returns-in_default c = away-refused _ c.load-l.ensures.value c.in_default.is c.refusal.ensures

pub returns : goal.returns
returns c = away-accepted _ c.load-l.ensures.value c.in-Ok.is
