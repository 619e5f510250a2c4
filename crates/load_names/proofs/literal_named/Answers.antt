use Rattle.load_names.proofs.Named.{literal-fault, literal-right}
use Rattle.load_names.proofs.literal_named.Goals as goal

pub returns-then-not-relation_called : goal.returns-then-not-relation_called
returns-then-not-relation_called c = let a = c.args in literal-fault a.known.now.image.now a.known.now.before.relations a.vars a.at c.byte_in-r.result c.byte_in-a.result c.byte_in-r.ensures.0 c.byte_in-a.ensures.0 (rw c.relation_called.ensures at (c.if-not-relation_called.true))

pub returns : goal.returns
returns c = let a = c.args in rw (← literal-right a.known.now.image.now a.known.now.before.relations a.vars a.at c.byte_in-r.result c.byte_in-a.result c.byte_in-r.ensures.0 c.byte_in-a.ensures.0 (rw c.relation_called.ensures at (c.if-not-relation_called.false))) c.terms_named.ensures
