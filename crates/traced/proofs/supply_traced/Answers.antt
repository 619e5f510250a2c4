use Rattle.std.proofs.lemmas.Result.{err_from_is_err_and}
use Rattle.traced.proofs.Noting.{supply-kept, supply-noted, supply-short}
use Rattle.traced.proofs.supply_traced.Goals as goal

pub returns-then-trace-lt-SIZE : goal.returns-then-trace-lt-SIZE
returns-then-trace-lt-SIZE c = supply-short _ _ _ _ _ _ _ c.if-trace-lt-SIZE.true c.decided-d.ensures c.supply_unnoted.ensures

pub returns-in_err-v : goal.returns-in_err-v
returns-in_err-v c = let p = err_from_is_err_and c.from_residual.result c.from_residual.ensures.1 in rw (p.1, p.2) (supply-kept _ _ _ _ _ _ _ c.if-trace-lt-SIZE.false c.supply.ensures c.in_err-v.was)

pub returns : goal.returns
returns c = supply-noted _ _ _ _ _ _ _ c.if-trace-lt-SIZE.false c.supply.ensures c.in_ok-v.was c.put_record.ensures.row
