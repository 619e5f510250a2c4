use borrow.Author.Rules.{rules}
use Rattle.rules_match.proofs.Ways.{way-bare, way-binding, way-failing, way-noting}
use Rattle.rules_match.proofs.way_of.Goals as goal

pub returns-in-Fails : goal.returns-in-Fails
returns-in-Fails c = way-failing c.in-Fails.is

pub returns-in-Suspends : goal.returns-in-Suspends
returns-in-Suspends c = rw c.from.ensures (way-noting _ c.in-Suspends.is (c.requires.some c.in-Suspends.is))

pub returns-then-changes-eq0 : goal.returns-then-changes-eq0
returns-then-changes-eq0 c = way-bare _ c.in-Binds.is c.if-changes-eq0.true

pub returns-else-changes-eq0 : goal.returns-else-changes-eq0
returns-else-changes-eq0 c = way-binding _ (search rules) c.in-Binds.is c.if-changes-eq0.false
