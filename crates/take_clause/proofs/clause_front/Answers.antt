use mathlib.Core.Path.{◌∙◌}
use Rattle.take_clause.proofs.Recorded.{lay-clause-front, mark-byte}
use Rattle.take_clause.proofs.clause_front.Goals as goal

pub returns : goal.returns
returns c = lay-clause-front c.args.size c.args.number c.args.arity _ c.args.opens c.args.vars (c.from.ensures ∙ mark-byte c.args.opens) c.front_of-a.ensures c.number-b.ensures c.number-c.ensures c.number-d.ensures c.number.ensures
