use Rattle.text_program.specs.Source.{read_mode}
use Rattle.take_modes.proofs.Walked.{brackets-none, brackets-some}
use Rattle.read_goal.proofs.Spanned.{in_brackets, no_brackets}
use Rattle.take_modes.proofs.brackets.Goals as goal

pub returns-then-byte_at-ne-OPEN : goal.returns-then-byte_at-ne-OPEN
returns-then-byte_at-ne-OPEN c = (no_brackets c.args.s.now c.args.at 0 read_mode _ c.requires c.byte_at.ensures.0 c.if-byte_at-ne-OPEN.true, brackets-none c.args.s.now c.args.at _ c.byte_at.ensures.0 c.args.out.now c.args.w.at c.if-byte_at-ne-OPEN.true)

pub returns : goal.returns
returns c = (in_brackets c.args.s.now c.args.at c.after_mark.result read_mode _ c.after_mark-from.result c.marks-inner.result c.byte_at.ensures.0 c.if-byte_at-ne-OPEN.false c.after_mark-from.ensures.0 c.marks-inner.ensures.0 c.after_mark.ensures.0 c.after_mark.ensures.1, brackets-some c.args.s.now c.args.at _ c.byte_at.ensures.0 c.args.out.now _ c.args.w.at c.after_mark-from.result c.if-byte_at-ne-OPEN.false c.after_mark-from.ensures.0 c.marks-inner.ensures.1)
