use borrow.Author.Rules.{rules}
use Rattle.rows.proofs.Tables.{procs-length}
use Rattle.turn_search.proofs.Passing.{all-kept, all-silent, all_told}
use Rattle.turn_search.proofs.Notes.hear_row.Goals as goal

pub returns-then-f-eq-SILENT : goal.returns-then-f-eq-SILENT
returns-then-f-eq-SILENT g c = all-silent _ _ (procs-length _ _) c.requires.3 _ _ c.requires.2 c.requires.4 c.parent_at-up.ensures c.if-up-q.true (search rules) (search rules) (search rules) (search rules) c.note_of-f.ensures c.if-f-eq-SILENT.true

pub returns-else-f-eq-SILENT : goal.returns-else-f-eq-SILENT
returns-else-f-eq-SILENT g c = all_told _ _ (procs-length _ _) c.requires.3 _ _ c.requires.2 c.requires.4 c.parent_at-up.ensures c.if-up-q.true (search rules) (search rules) (search rules) (search rules) c.note_of-f.ensures c.if-f-eq-SILENT.false c.hear.ensures

pub returns-else-up-q : goal.returns-else-up-q
returns-else-up-q g c = all-kept _ _ (procs-length _ _) c.requires.3 _ _ c.requires.2 c.requires.4 c.parent_at-up.ensures c.if-up-q.false
