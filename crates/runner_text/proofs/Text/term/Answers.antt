use Rattle.runner_text.proofs.Lines.{term-const, term-var}
use Rattle.runner_text.proofs.Text.term.Goals as goal

pub returns-in-Const : goal.returns-in-Const
returns-in-Const c = term-const _ c.put.ensures (rw c.from.ensures at c.number.ensures) c.in-Const.is

pub returns-in-Var : goal.returns-in-Var
returns-in-Var c = term-var _ c.put.ensures (rw c.from-in-Var.ensures at c.number-in-Var.ensures) c.in-Var.is c.put-in-Var.ensures
