use Rattle.turn_search.proofs.Laws.{noted-few}
use borrow.Author.Rules.{rules}
use Rattle.turn_search.proofs.wakes.Goals as goal

pub returns : goal.returns
returns c = noted-few _ _ c.count_at.ensures c.few-count.ensures.0 c.notes_at-notes.ensures (search rules) c.some_bound.ensures
