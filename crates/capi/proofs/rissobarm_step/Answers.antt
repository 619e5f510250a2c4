use Rattle.capi.proofs.Laws.{step-fit, step-tells}
use Rattle.parlog.proofs.Limits.{small-usable}
use Rattle.capi.proofs.rissobarm_step.Goals as goal

pub step_word-requires : goal.step_word-requires
step_word-requires c = step-fit _ _ _ _ c.step-a.ensures small-usable

pub returns : goal.returns
returns c = step-tells _ _ _ _ c.step-a.ensures c.step_word.ensures
