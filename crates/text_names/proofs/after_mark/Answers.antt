use Rattle.text_names.proofs.Walk.{mark-in, mark-out}
use Rattle.text_names.proofs.after_mark.Goals as goal

pub returns-then-at-s : goal.returns-then-at-s
returns-then-at-s c = (mark-in c.args.s.now c.args.at c.skip_blanks.result c.skip_blanks.ensures.0, c.skip_blanks.ensures.1)

pub returns : goal.returns
returns c = (mark-out c.args.s.now c.args.at c.if-at-s.false, c.requires)
