use mathlib.Core.Path.{◌∙◌, ap}
use lib.ListN.{length}
use Rattle.program_goal.proofs.Goals.{spot-relation, spot-stage}
use Rattle.program_goal.proofs.called.Goals as goal

pub returns : goal.returns
returns c = let z = c.args.z in
    let h = c.goal_home-h.ensures.0 in
    (c.called_at.ensures.0 ∙ ap length (spot-stage _ z h), c.called_at.ensures.1 ∙ spot-relation _ z h, c.called_at.ensures.3)
