use Rattle.read_names.proofs.Lined.{mode-line-span}
use Rattle.read_names.proofs.mode_line.Goals as goal

pub after_mark-requires : goal.after_mark-requires
after_mark-requires c = c.modes-inner.ensures.inside

pub returns : goal.returns
returns c = mode-line-span c.args.s.now c.args.at c.past_name-name.result c.past_name-open.result c.after_mark.result c.modes-inner.result c.past_name-name.ensures.0 c.past_name-open.ensures.0 c.modes-inner.ensures c.after_mark.ensures.0 c.after_mark.ensures.1
