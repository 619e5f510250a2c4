use native.Mathlib.Omega.{arith}
use Rattle.step.proofs.Deciding.{count-capped}
use mathlib.Core.Path.{◌∙◌}
use Rattle.step.proofs.count.Goals as goal

pub returns : goal.returns
returns c = c.saturating_add.ensures ∙ count-capped c.args.steps (omega arith)
