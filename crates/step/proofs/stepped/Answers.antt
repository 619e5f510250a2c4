use Rattle.std.proofs.lemmas.Result.{err_from_is_err_and}
use Rattle.step.proofs.Stepping.{stepped-moved, stepped-refused}
use Rattle.step.proofs.stepped.Goals as goal

pub returns-in_err-plan : goal.returns-in_err-plan
returns-in_err-plan c = let p = err_from_is_err_and c.from_residual.result c.from_residual.ensures.1 in rw (p.1, p.2) (stepped-refused _ _ _ _ _ c.requires.0 _ c.planned.ensures c.in_err-plan.was)

pub carry_out-requires : goal.carry_out-requires
carry_out-requires c = c.planned.ensures.carries c.in_ok-plan.was

pub returns : goal.returns
returns c = stepped-moved _ _ _ _ _ c.requires.0 _ c.planned.ensures c.in_ok-plan.was c.carry_out.ensures
