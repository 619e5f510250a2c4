use Rattle.write_text.proofs.Lined.{program-told}
use Rattle.write_text.proofs.lines.Goals as goal

pub returns : goal.returns
returns c = program-told c.args.s.now.names.row.now c.args.s.now.image.now c.args.s.now.relations c.args.c _ _ c.record_at-from.ensures.0 c.record_at-ask.ensures.0 c.mode_lines.ensures c.clauses.ensures c.goal_line.ensures
