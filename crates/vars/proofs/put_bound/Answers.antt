use Rattle.vars.proofs.Laws.{four-stores, low_in, middle_in, top_in}
use native.Mathlib.Omega.{arith}
use Rattle.vars.proofs.put_bound.Goals as goal

pub returns : goal.returns
returns c =
    let is = c.number_of.ensures in
    let bytes = c.to_le_bytes-number.ensures in
    four-stores c.args.vars.now c.args.v _ _ _ _ _ c.args.t (omega arith) is c.sort_of.ensures (low_in _ bytes) (middle_in _ bytes) (top_in _ (omega (arith, is)) bytes)
