use Rattle.read_goal.proofs.Spanned.{no_brackets, in_brackets}
use Rattle.text_program.specs.Source.{read_mode}
use Rattle.read_names.proofs.modes.Goals as goal

pub returns-then-byte_at-ne-OPEN : goal.returns-then-byte_at-ne-OPEN
returns-then-byte_at-ne-OPEN c = no_brackets c.args.s.now c.args.at 0 read_mode _ c.requires c.byte_at.ensures.0 c.if-byte_at-ne-OPEN.true

pub marks-inner-requires : goal.marks-inner-requires
marks-inner-requires c = c.after_mark-from.ensures.1

pub after_mark-requires : goal.after_mark-requires
after_mark-requires c = c.marks-inner.ensures.inside

pub returns : goal.returns
returns c = in_brackets c.args.s.now c.args.at c.after_mark.result read_mode _ c.after_mark-from.result c.marks-inner.result c.byte_at.ensures.0 c.if-byte_at-ne-OPEN.false c.after_mark-from.ensures.0 c.marks-inner.ensures c.after_mark.ensures.0 c.after_mark.ensures.1
