use Rattle.write_text.proofs.Lined.{mode-line-told}
use Rattle.write_text.proofs.mode_line.Goals as goal

pub returns : goal.returns
returns c = mode-line-told c.args.s.now.relations c.args.s.now.names.row.now c.args.s.now.image.now c.args.k c.args.at c.word.ensures c.name.ensures c.mode_marks.ensures c.word-2.ensures
