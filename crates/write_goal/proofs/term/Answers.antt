use mathlib.Core.Path.{sym, ◌∙◌}
use native.Mathlib.Omega.{arith}
use Rattle.write_goal.proofs.Rowed.{const-term, var-term}
use Rattle.write_goal.proofs.term.Goals as goal

pub returns-in-Const : goal.returns-in-Const
returns-in-Const c = const-term c.args.s.now.relations c.args.s.now.names.row.now _ _ _ (sym c.term_at.ensures.0 ∙ c.in-Const.is) (omega arith) c.name.ensures

pub returns-in-Var : goal.returns-in-Var
returns-in-Var c = var-term c.args.s.now.relations c.args.s.now.names.row.now _ _ _ (sym c.term_at.ensures.0 ∙ c.in-Var.is) c.letter.ensures c.put.ensures
