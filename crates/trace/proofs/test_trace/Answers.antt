use Rattle.trace.proofs.Laws.{faults-fill, gap_below, tested-faulty, tested-gap, tested-none}
use Rattle.std.proofs.Common.{arith}
use Rattle.std.proofs.lemmas.Result.{err_from_is_err_and}
use Rattle.trace.proofs.test_trace.Goals as goal

pub returns-in_err-n : goal.returns-in_err-n
returns-in_err-n c = let p = err_from_is_err_and c.from_residual.result c.from_residual.ensures.1 in rw (p.1, p.2) (rw c.in_err-n.was at (tested-faulty _ c.faults.ensures c.in_err-n.was))

pub returns-in_default : goal.returns-in_default
returns-in_default c = tested-none _ c.faults.ensures c.in_ok-n.was c.first_gap-g.ensures c.in_default.is

pub overflow_mul-result : goal.overflow_mul-result
overflow_mul-result c = let f = faults-fill _ c.faults.ensures c.in_ok-n.was in
    let g = gap_below _ _ c.first_gap-g.ensures c.in-Some.is in
    omega (arith, f, g)

pub returns : goal.returns
returns c = tested-gap _ c.faults.ensures c.in_ok-n.was c.first_gap-g.ensures c.in-Some.is
