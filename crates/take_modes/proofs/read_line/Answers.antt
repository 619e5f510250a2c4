use Rattle.take_modes.proofs.Walked.{reads-line}
use Rattle.text_names.specs.Bytes.{skip}
use mathlib.Core.Path.{◌∙◌, ap}
use Rattle.take_modes.proofs.read_line.Goals as goal

pub returns : goal.returns
returns c = reads-line c.args.s.now c.args.p c.args.at c.past_name-name.result c.name_at-word.result.chain c.skip_blanks-open.result c.after_mark.result c.brackets-inner.result c.past_name-name.ensures.0 c.past_name-name.ensures.1 c.name_at-word.ensures.chain (c.skip_blanks-open.ensures.0 ∙ ap skip c.name_at-word.ensures.end) c.brackets-inner.ensures.0 c.after_mark.ensures.0 c.after_mark.ensures.1 c.brackets-inner.ensures.1
