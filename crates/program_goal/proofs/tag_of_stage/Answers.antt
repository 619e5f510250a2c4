use mathlib.Core.Path.{◌∙◌, ap}
use Rattle.parlog.specs.Program.{tag_of_stage}
use Rattle.program_goal.proofs.Goals.{spot-stage}
use Rattle.program_goal.proofs.tag_of_stage.Goals as goal

pub returns : goal.returns
returns c = c.stage_tag.ensures ∙ ap tag_of_stage (spot-stage _ c.args.z c.goal_home-h.ensures.0)
