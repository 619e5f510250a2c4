use borrow.Author.Rules.{rules}
use native.Mathlib.Omega.{arith}
use Rattle.rules_match.proofs.Ways.{bound-within, by-binding, by-failing, by-noting, within_none}
use Rattle.rules_match.proofs.start_by.Goals as goal

pub returns-in-Fails : goal.returns-in-Fails
returns-in-Fails c = (by-failing _ _ c.in-Fails.is c.report.ensures.0, c.report.ensures.1, omega arith, within_none _ c.report.result c.report.ensures.2)

pub returns-in-Suspends : goal.returns-in-Suspends
returns-in-Suspends c = (by-noting _ _ _ c.in-Suspends.is (c.requires.0.some c.in-Suspends.is) c.with_notes.ensures c.only.ensures.0, c.only.ensures.1, omega arith, within_none _ c.only.result c.only.ensures.2)

pub returns-in-Binds : goal.returns-in-Binds
returns-in-Binds c = let e = c.report_with.ensures.2 in (by-binding _ _ _ c.in-Binds.is c.report_with.ensures.0, c.report_with.ensures.1, c.report_with.result.changes.few, rw e (bound-within _ (search rules) _ c.in-Binds.is c.requires.1))
