use mathlib.Core.Path.{refl}
use Rattle.runner_text.proofs.Laws.{put_one}
use Rattle.runner_text.proofs.Text.put.Goals as goal

pub returns : goal.returns
returns c = record { lent = refl; fronted = put_one _ _ _ c.requires c.args.self.now.inside }
