use Rattle.mode_table.specs.Held.{lines_in}
use Rattle.take_term.specs.Lent.{Same}
use Rattle.take_text.proofs.Far.{Far}
use Rattle.take_text.proofs.clause_lines.Given as goal

abbrev pub invariant-loop-w : goal.invariant-loop-w
invariant-loop-w l = Far l.relations.text.now (lines_in l.relations) l.initial.draft.out.now l.initial.draft.consts.now l.from l.at l.consts l.initial.w.known l.draft.out.now l.draft.consts.now l.draft.links.now l.w l.before l.semicolon × Same l.initial.draft l.draft

abbrev pub decreases-loop-w : goal.decreases-loop-w
decreases-loop-w l = l.w.left
