use Rattle.load_names.proofs.Named.{relation-known, relation-unknown}
use Rattle.load_names.proofs.relation_named.Goals as goal

pub returns-then-r-known : goal.returns-then-r-known
returns-then-r-known c = let a = c.args in rw c.from.ensures (relation-known a.known.now.image.now a.known.now.arities.now a.known.now.before.relations a.r a.a (a.known.now.told a.r c.if-r-known.true) c.if-r-known.true)

pub returns : goal.returns
returns c = let a = c.args in relation-unknown a.known.now.image.now a.known.now.before.relations a.r a.a c.if-r-known.false
