use mathlib.Core.List.{[]}
use Rattle.take_goal.proofs.Ways.{take-equality}
use Rattle.take_term.proofs.Laws.{ready_moved, takes-ready}
use Rattle.take_goal.proofs.equality.Goals as goal

pub after_mark-requires : goal.after_mark-requires
after_mark-requires c = (c.term-c.ensures.taken []).inside

pub term-e-requires : goal.term-e-requires
term-e-requires c = ready_moved c.after_mark.result 2 (takes-ready (c.term-c.ensures.taken [])) c.move_to-d.ensures c.after_mark.ensures.1

pub returns-clause-taken : goal.returns-clause-taken
returns-clause-taken c = (take-equality c.after_mark.result c.number-a.ensures c.number-b.ensures c.term-c.ensures.taken c.after_mark.ensures.0 c.move_to-d.ensures c.term-e.ensures.taken c.move_to.ensures)
