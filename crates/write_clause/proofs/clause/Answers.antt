use Rattle.write_clause.proofs.Claused.{clause-told}
use Rattle.write_clause.proofs.clause.Goals as goal

pub returns : goal.returns
returns c = clause-told c.args.s.now.relations c.args.s.now.names.row.now c.args.s.now.image.now c.args.at c.args.mark _ _ c.byte_at-rel.ensures.0 c.byte_at-n.ensures.0 c.name.ensures c.arguments.ensures c.halves.ensures c.clause_end.ensures
