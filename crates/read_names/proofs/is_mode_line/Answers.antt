use Rattle.read_names.proofs.Lined.{mode-line-is}
use Rattle.read_names.proofs.is_mode_line.Goals as goal

pub returns : goal.returns
returns c = mode-line-is c.args.s.now c.args.at c.past_name-behind.result _ _ _ c.is_mode-word.ensures c.past_name-behind.ensures.0 c.byte_at.ensures.0 c.is_small.ensures
