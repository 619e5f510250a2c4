use Rattle.std.proofs.Common.{rules}
use Rattle.bound_calls.proofs.Telling.{step_away, step-done, step-nobody}
use Rattle.step.proofs.Deciding.{told_of}
use native.Mathlib.Omega.{arith}
use mathlib.Core.Path.{sym}
use Rattle.bound_calls.proofs.step_bound.Goals as goal

pub returns-in_default : goal.returns-in_default
returns-in_default c = step_away _ _ _ _ c.enter-e.ensures.enter_says _ c.in_default.is c.refusal-r.ensures

pub returns-then-n-p : goal.returns-then-n-p
returns-then-n-p c = step-nobody _ _ _ _ c.enter-e.ensures.enter_says c.in-Ok.is _ c.proc_count-n.ensures.0 c.if-n-p.true c.refusal.ensures

pub step_in-requires : goal.step_in-requires
step_in-requires c = let en = c.proc_count-n.ensures.0 in (search rules, omega (arith, en, c.if-n-p.false), told_of _ _ (sym en) c.ask-told.ensures)

pub returns : goal.returns
returns c = step-done _ _ _ _ c.enter-e.ensures.enter_says c.in-Ok.is _ c.step_in.ensures
