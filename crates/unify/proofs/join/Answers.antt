use borrow.Author.Rules.{rules}
use native.Mathlib.Omega.{arith}
use Rattle.unify.proofs.Laws.{bound-is, joined-bind, joined-clash, joined-same}
use Rattle.unify.proofs.join.Goals as goal

pub returns-in-Clash : goal.returns-in-Clash
returns-in-Clash c = (rw c.in-Clash.is (joined-clash _), search rules, bound-is _)

pub returns-in-Same : goal.returns-in-Same
returns-in-Same c = (rw c.in-Same.is (joined-same _), omega arith, bound-is _)

pub returns-in-Bind : goal.returns-in-Bind
returns-in-Bind c = (rw c.in-Bind.is (joined-bind _ _ _ _ c.with.ensures.0), omega (arith, c.with.ensures.1), bound-is _)
