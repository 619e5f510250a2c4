use Rattle.row_tests.proofs.Laws.{cell-code, cell-none}
use borrow.Author.Rules.{rules}
use Rattle.row_tests.proofs.cell_ok.Goals as goal

pub returns-in-0 : goal.returns-in-0
returns-in-0 c = rw c.in-0.is (cell-code c.args.v 0 c.args.number)

pub returns-in-1 : goal.returns-in-1
returns-in-1 c = rw c.in-1.is (cell-code c.args.v 1 c.args.number)

pub returns-in-2 : goal.returns-in-2
returns-in-2 c = rw c.in-2.is (cell-code c.args.v 2 c.args.number)

pub returns-in_default : goal.returns-in_default
returns-in_default c = search (rules, cell-none)
