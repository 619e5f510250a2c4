use Rattle.write_goal.proofs.Rowed.{literal-call, literal-equality}
use Rattle.write_goal.proofs.literal.Goals as goal

pub returns-then-rel-eq-EQUALITY : goal.returns-then-rel-eq-EQUALITY
returns-then-rel-eq-EQUALITY c = literal-equality c.args.s.now.relations c.args.s.now.names.row.now c.args.s.now.image.now c.args.at _ _ c.byte_at-rel.ensures.0 c.byte_at-n.ensures.0 c.if-rel-eq-EQUALITY.true c.terms.ensures

pub returns : goal.returns
returns c = literal-call c.args.s.now.relations c.args.s.now.names.row.now c.args.s.now.image.now c.args.at _ _ c.byte_at-rel.ensures.0 c.byte_at-n.ensures.0 c.if-rel-eq-EQUALITY.false c.name.ensures c.arguments.ensures
