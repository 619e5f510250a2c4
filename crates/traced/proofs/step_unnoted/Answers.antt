use mathlib.Core.Path.{sym}
use native.Mathlib.Omega.{arith}
use Rattle.std.proofs.Common.{rules}
use Rattle.std.proofs.lemmas.Result.{err_from_is_err_and}
use Rattle.step.proofs.Deciding.{told_of}
use Rattle.step.proofs.Stepping.{step-nobody, step-refused}
use Rattle.traced.proofs.Noting.{unnoted-as, unnoted-made, unnoted-refused}
use Rattle.traced.proofs.step_unnoted.Goals as goal

pub returns-in_default : goal.returns-in_default
returns-in_default c = unnoted-as _ _ _ _ (step-refused _ _ _ _ c.enter-e.ensures.enter_says c.in_default.is c.refusal-r.ensures)

pub returns-then-n-p : goal.returns-then-n-p
returns-then-n-p c = unnoted-as _ _ _ _ (step-nobody _ _ _ _ c.enter-e.ensures.enter_says c.in-Ok.is c.proc_count-n.ensures.0 c.if-n-p.true c.refusal.ensures)

pub planned-requires : goal.planned-requires
planned-requires c = let en = c.proc_count-n.ensures.0 in (search rules, omega (arith, en, c.if-n-p.false), told_of _ _ (sym en) c.ask-told.ensures)

pub returns-in_err-planned : goal.returns-in_err-planned
returns-in_err-planned c = let p = err_from_is_err_and c.from_residual.result c.from_residual.ensures.1 in rw (p.1, p.2) (unnoted-refused _ _ _ _ c.enter-e.ensures.enter_says c.in-Ok.is c.planned.ensures c.in_err-planned.was)

pub returns : goal.returns
returns c = unnoted-made _ _ _ _ c.enter-e.ensures.enter_says c.in-Ok.is c.planned.ensures c.in_ok-planned.was c.refusal-2.ensures
