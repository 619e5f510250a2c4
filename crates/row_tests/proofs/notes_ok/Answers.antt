use Rattle.row_tests.proofs.Laws.{notes-code}
use borrow.Author.Rules.{rules}
use Rattle.row_tests.proofs.notes_ok.Goals as goal

pub returns : goal.returns
returns c = rw (← notes-code c.args.n c.args.count c.args.notes (search rules)) cc
