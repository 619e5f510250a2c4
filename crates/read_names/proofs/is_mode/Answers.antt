use Rattle.read_names.proofs.Lined.{mode-word}
use mathlib.Core.Path.{◌∙◌}
use Rattle.read_names.proofs.is_mode.Goals as goal

pub returns : goal.returns
returns c = c.eq.ensures ∙ mode-word c.args.s.now c.args.at c.name_end-end.result c.requires c.name_end-end.ensures.1 c.name_end-end.ensures.0
