use Rattle.std.proofs.lemmas.Result.{err_from_is_err_and}
use Rattle.bound.proofs.Telling.{supply-refused, supply-short, supply-told}
use Rattle.machine.proofs.Giving.{supply-given}
use native.Mathlib.Omega.{arith}
use Rattle.bound.proofs.supply_bound.Goals as goal

pub returns-in_err-v : goal.returns-in_err-v
returns-in_err-v c = let p = err_from_is_err_and c.from_residual.result c.from_residual.ensures.1 in rw (p.1, p.2) (supply-refused _ _ _ _ _ _ c.decided.ensures c.in_err-v.was)

pub returns-then-bound-lt-ONE_SIZE : goal.returns-then-bound-lt-ONE_SIZE
returns-then-bound-lt-ONE_SIZE c = supply-short _ _ _ _ _ _ c.decided.ensures c.in_ok-v.was c.if-bound-lt-ONE_SIZE.true c.refusal-short.ensures

pub returns : goal.returns
returns c =
    supply-told _ _ _ _ _ _ c.decided.ensures c.in_ok-v.was c.if-bound-lt-ONE_SIZE.false (supply-given _ _ _ _ _ c.decided.ensures c.in_ok-v.was c.var_count-n.ensures.0 c.bind.ensures (λ b. omega (arith, c.type_inv.head b)) (λ b. omega (arith, c.type_inv.procs b)) (λ b. omega (arith, c.type_inv.vars b))) c.tell_one.ensures
