use Rattle.parlog.specs.Image.{stage_end}
use native.Mathlib.Omega.{arith}
use Rattle.place.proofs.stage_end.Goals as goal

pub returns : goal.returns
unfolding stage_end
returns c = (rw (← c.byte_at-n.ensures.0) c.literals_end.ensures.0, omega arith)
