use native.Mathlib.Omega.{arith}
use Rattle.rules_match.proofs.Ways.{noted_here, sleeps-on, wakes, within_none}
use Rattle.rules_match.proofs.wake.Goals as goal

pub returns-then-not-some_bound : goal.returns-then-not-some_bound
returns-then-not-some_bound c = (sleeps-on _ _ _ (noted_here _ _ c.some_bound.ensures) (c.if-not-some_bound.true) c.none.ensures.0, c.none.ensures.1, omega arith, within_none _ c.none.result c.none.ensures.2)

pub returns : goal.returns
returns c = (wakes _ _ _ (noted_here _ _ c.some_bound.ensures) (c.if-not-some_bound.false) c.woken-y.ensures c.only.ensures.0, c.only.ensures.1, omega arith, within_none _ c.only.result c.only.ensures.2)
