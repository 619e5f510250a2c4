use Rattle.table_rules.proofs.Places.{clause-none, clause-some}
use Rattle.table_rules.proofs.clause_in.Goals as goal

pub returns-then-image-number : goal.returns-then-image-number
returns-then-image-number c = clause-none c.args.image.now.bytes.now c.args.image.now.relations c.args.image.now.clauses c.args.n c.args.k c.args.v c.if-image-number.true

pub returns : goal.returns
returns c = clause-some c.args.image.now.bytes.now c.args.image.now.relations c.args.image.now.clauses c.args.n c.args.k c.args.v c.if-image-number.false c.vars_of-size.ensures.0
