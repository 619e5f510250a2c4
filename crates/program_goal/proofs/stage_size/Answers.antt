use mathlib.Core.Path.{◌∙◌, ap}
use lib.ListN.{length}
use native.Mathlib.Omega.{arith}
use Rattle.program_goal.proofs.Goals.{spot-stage}
use Rattle.program_goal.proofs.stage_size.Goals as goal

pub returns : goal.returns
returns c = (c.stage_size_at.ensures.0 ∙ ap length (spot-stage _ c.args.z c.goal_home-h.ensures.0), omega arith)
