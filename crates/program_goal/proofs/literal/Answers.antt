use mathlib.Core.Path.{◌∙◌}
use Rattle.program_goal.proofs.Goals.{spot-literal}
use Rattle.program_goal.proofs.literal.Goals as goal

pub returns : goal.returns
returns c = (c.literal_at.ensures.0 ∙ spot-literal _ c.args.z c.goal_home-h.ensures.0, c.literal_at.ensures.1)
