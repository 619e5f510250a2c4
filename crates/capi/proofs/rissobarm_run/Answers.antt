use native.Mathlib.Omega.{arith}
use Rattle.capi.proofs.Laws.{run-fit, run-tells}
use Rattle.capi.proofs.rissobarm_run.Goals as goal

pub run_word-requires : goal.run_word-requires
run_word-requires c = run-fit _ _ _ _ c.run-a.ensures (omega arith)

pub returns : goal.returns
returns c = run-tells _ _ _ _ c.run-a.ensures c.run_word.ensures
