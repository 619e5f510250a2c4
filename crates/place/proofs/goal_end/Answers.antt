use Rattle.parlog.specs.Image.{goal_end}
use native.Mathlib.Omega.{arith}
use Rattle.place.proofs.goal_end.Goals as goal

pub returns : goal.returns
unfolding goal_end
returns c = (rw (← c.byte_at-n.ensures.0) c.stages_end.ensures.0, omega arith)
