use Rattle.std.proofs.lemmas.Result.{err_from_is_err_and}
use Rattle.bound.proofs.Telling.{bound-refused, bound-short, bound-told}
use Rattle.bound.proofs.step_in.Goals as goal

pub returns-in_err-plan : goal.returns-in_err-plan
returns-in_err-plan c = let p = err_from_is_err_and c.from_residual.result c.from_residual.ensures.1 in rw (p.1, p.2) (bound-refused _ _ _ _ _ c.requires.0 _ _ c.planned.ensures c.in_err-plan.was)

pub returns-then-bound-size_of : goal.returns-then-bound-size_of
returns-then-bound-size_of c = bound-short _ _ _ _ _ c.requires.0 _ _ c.planned.ensures c.in_ok-plan.was c.size_of.ensures c.if-bound-size_of.true c.refusal.ensures

pub carry_out-requires : goal.carry_out-requires
carry_out-requires c = c.planned.ensures.carries c.in_ok-plan.was

pub returns : goal.returns
returns c = bound-told _ _ _ _ _ c.requires.0 _ _ c.planned.ensures c.in_ok-plan.was c.size_of.ensures c.if-bound-size_of.false c.carry_out.ensures c.tell.ensures
