use borrow.Author.Rules.{rules}
use Rattle.decide.proofs.Laws.{made-there, way-binds, way-fails, way-suspends}
use Rattle.decide.proofs.decide.Goals as goal

pub returns-in_default : goal.returns-in_default
returns-in_default c = way-fails _ _ _ c.in_default.ensures.0

pub needed-s-requires : goal.needed-s-requires
needed-s-requires c = (search rules, c.requires.3, made-there _ _ _ _ _ c.in-Some.ensures.0 (search rules) c.requires.2)

pub returns-then-s-eq0 : goal.returns-then-s-eq0
returns-then-s-eq0 c = way-binds _ _ _ _ c.in-Some.ensures.0 _ c.needed-s.ensures c.if-s-eq0.true

pub returns : goal.returns
returns c = way-suspends _ _ _ _ c.in-Some.ensures.0 _ c.needed-s.ensures c.if-s-eq0.false
