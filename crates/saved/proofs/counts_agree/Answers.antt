use mathlib.Core.Path.{◌∙◌, refl}
use Rattle.saved.proofs.Written.{counts-said}
use Rattle.saved.proofs.counts_agree.Goals as goal

pub returns : goal.returns
returns c = counts-said c.args.s.now c.args.a c.args.b (c.from-n.ensures ∙ c.get_u16.ensures) (c.from-m.ensures ∙ c.get_u16-2.ensures) refl
