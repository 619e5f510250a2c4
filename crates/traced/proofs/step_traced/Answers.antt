use Rattle.std.proofs.lemmas.Result.{err_from_is_err_and}
use Rattle.traced.proofs.Noting.{step_kept, step-noted, step-short}
use Rattle.traced.proofs.step_traced.Goals as goal

pub returns-then-trace-lt-SIZE : goal.returns-then-trace-lt-SIZE
returns-then-trace-lt-SIZE c = step-short _ _ _ _ _ _ c.if-trace-lt-SIZE.true c.step_unnoted.ensures

pub returns-in_err-m : goal.returns-in_err-m
returns-in_err-m c = let p = err_from_is_err_and c.from_residual.result c.from_residual.ensures.1 in rw (p.1, p.2) (step_kept _ _ _ _ _ _ c.if-trace-lt-SIZE.false c.step.ensures c.in_err-m.was)

pub returns : goal.returns
returns c = step-noted _ _ _ _ _ _ c.if-trace-lt-SIZE.false c.step.ensures c.in_ok-m.was c.rule_number-rule.ensures.0 c.put_record.ensures.row
