use mathlib.Core.Path.{◌∙◌, ap, sym}
use native.Mathlib.Omega.{arith}
use Rattle.parlog.specs.Program.{tag_of_goal}
use Rattle.program_goal.proofs.Tags.{goal-many, goal-one}
use Rattle.program_goal.proofs.tag_of_goal.Goals as goal

pub returns-then-n-ne1 : goal.returns-then-n-ne1
returns-then-n-ne1 c = goal-many _ c.goal_size_at-n.ensures.0 c.if-n-ne1.true ∙ ap tag_of_goal (sym c.goal_home-h.ensures.0)

pub returns : goal.returns
returns c = goal-one _ c.goal_size_at-n.ensures.0 (omega arith) c.stage_tag.ensures ∙ ap tag_of_goal (sym c.goal_home-h.ensures.0)
