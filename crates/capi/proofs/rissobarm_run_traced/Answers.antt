use Rattle.capi.proofs.Laws.{row-tells}
use Rattle.capi.proofs.Traces.{run-traced-fit}
use native.Mathlib.Omega.{arith}
use Rattle.parlog.specs.Numbers.{run_numbers}
use Rattle.capi.proofs.rissobarm_run_traced.Goals as goal

pub run_word-requires : goal.run_word-requires
run_word-requires c = run-traced-fit _ _ _ _ _ _ c.run_traced-a.ensures (omega arith)

pub returns : goal.returns
returns c = row-tells c.run_traced-a.ensures run_numbers c.run_word.ensures
