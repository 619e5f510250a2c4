use Rattle.row_tests.proofs.Laws.{makes-code, makes-none}
use borrow.Author.Rules.{rules}
use Rattle.row_tests.proofs.makes.Goals as goal

pub returns-in-0 : goal.returns-in-0
returns-in-0 c = rw c.in-0.is (makes-code 0 c.args.t)

pub returns-in-1 : goal.returns-in-1
returns-in-1 c = rw c.in-1.is (makes-code 1 c.args.t)

pub returns-in-2 : goal.returns-in-2
returns-in-2 c = rw c.in-2.is (makes-code 2 c.args.t)

pub returns-in-3 : goal.returns-in-3
returns-in-3 c = rw c.in-3.is (makes-code 3 c.args.t)

pub returns-in-4 : goal.returns-in-4
returns-in-4 c = rw c.in-4.is (makes-code 4 c.args.t)

pub returns-in-5 : goal.returns-in-5
returns-in-5 c = rw c.in-5.is (makes-code 5 c.args.t)

pub returns-in-7 : goal.returns-in-7
returns-in-7 c = rw c.in-7.is (makes-code 7 c.args.t)

pub returns-in_default : goal.returns-in_default
returns-in_default c = search (rules, makes-none)
