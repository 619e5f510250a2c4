use Rattle.read_goal.proofs.Spanned.{no_brackets, in_brackets}
use Rattle.text_program.specs.Source.{read_term}
use Rattle.read_goal.proofs.terms.Goals as goal

pub returns-then-byte_at-ne-OPEN : goal.returns-then-byte_at-ne-OPEN
returns-then-byte_at-ne-OPEN c = no_brackets c.args.s.now c.args.at 0 read_term _ c.requires c.byte_at.ensures.0 c.if-byte_at-ne-OPEN.true

pub returns : goal.returns
returns c = in_brackets c.args.s.now c.args.at c.after_mark.result read_term _ c.after_mark-from.result c.names-inner.result c.byte_at.ensures.0 c.if-byte_at-ne-OPEN.false c.after_mark-from.ensures.0 c.names-inner.ensures c.after_mark.ensures.0 c.after_mark.ensures.1
