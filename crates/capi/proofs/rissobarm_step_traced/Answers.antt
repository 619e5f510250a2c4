use Rattle.capi.proofs.Laws.{row-tells}
use Rattle.capi.proofs.Traces.{step-traced-fit}
use Rattle.parlog.proofs.Limits.{small-usable}
use Rattle.parlog.specs.Numbers.{step_numbers}
use Rattle.capi.proofs.rissobarm_step_traced.Goals as goal

pub step_word-requires : goal.step_word-requires
step_word-requires c = step-traced-fit _ _ _ _ _ _ c.step_traced-a.ensures small-usable

pub returns : goal.returns
returns c = row-tells c.step_traced-a.ensures step_numbers c.step_word.ensures
