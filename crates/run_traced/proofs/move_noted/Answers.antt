use Rattle.std.proofs.lemmas.Result.{err_from_is_err_and}
use Rattle.run_traced.proofs.Noting.{move-kept, move_noted}
use Rattle.run_traced.proofs.move_noted.Goals as goal

pub returns-in_err-m : goal.returns-in_err-m
returns-in_err-m c = let p = err_from_is_err_and c.from_residual.result c.from_residual.ensures.1 in rw (p.1, p.2) (move-kept _ _ _ _ _ _ c.stepped.ensures _ _ _ c.in_err-m.was)

pub returns : goal.returns
returns c = move_noted _ _ _ _ _ _ c.stepped.ensures _ _ _ c.in_ok-m.was c.rule_number-rule.ensures.0 c.put_record.ensures.row
