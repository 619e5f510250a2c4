use mathlib.Core.Path.{sym}
use native.Mathlib.Omega.{arith}
use Rattle.std.proofs.Common.{rules}
use Rattle.step.proofs.Deciding.{told_of}
use Rattle.step.proofs.Stepping.{step-done, step-nobody, step-refused}
use Rattle.step.proofs.step.Goals as goal

pub returns-in_default : goal.returns-in_default
returns-in_default c = step-refused _ _ _ _ c.enter-e.ensures.enter_says c.in_default.is c.refusal-r.ensures

pub returns-then-n-p : goal.returns-then-n-p
returns-then-n-p c = step-nobody _ _ _ _ c.enter-e.ensures.enter_says c.in-Ok.is c.proc_count-n.ensures.0 c.if-n-p.true c.refusal.ensures

pub stepped-requires : goal.stepped-requires
stepped-requires c = let en = c.proc_count-n.ensures.0 in (search rules, omega (arith, en, c.if-n-p.false), told_of _ _ (sym en) c.ask-told.ensures)

pub returns : goal.returns
returns c = step-done _ _ _ _ c.enter-e.ensures.enter_says c.in-Ok.is c.stepped.ensures
