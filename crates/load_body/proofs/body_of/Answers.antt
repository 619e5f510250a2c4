use native.Mathlib.Omega.{arith}
use borrow.Author.Tests.{ne_eqb}
use Rattle.parlog.specs.Body.{body_right}
use Rattle.load_body.proofs.Goals.{within}
use Rattle.load_body.proofs.body_of.Goals as goal

pub returns-in-1 : goal.returns-in-1
unfolding body_right
returns-in-1 c = (rw (c.in-1.is, ← c.relation_body.ensures) c.then_some.ensures, rw c.then_some.ensures (within _ _ _ (omega arith)))

pub returns-in-2 : goal.returns-in-2
unfolding body_right
returns-in-2 c = rw c.in-2.is c.clause_body.ensures

pub returns-in_default : goal.returns-in_default
unfolding body_right
returns-in_default c = let n = c.in_default.in_default-own.rest in
    (rw (ne_eqb _ _ n.0.1, ne_eqb _ _ n.1, ← c.ask_body.ensures) c.then_some-in_default.ensures, rw c.then_some-in_default.ensures (within _ _ _ (omega arith)))
