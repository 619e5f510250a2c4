use native.Mathlib.Omega.{arith}
use Rattle.capi.proofs.Laws.{load-accepted, load-refused}
use Rattle.capi.proofs.rissobarm_load.Goals as goal

pub refused-requires : goal.refused-requires
refused-requires c =
    let h = rw c.in_default.is at c.load-l.ensures.bounded in
    rw (c.refusal-r.ensures, c.in_default.is) (omega (arith, h))

pub returns-in_default : goal.returns-in_default
returns-in_default c = load-refused _ c.load-l.ensures.value c.in_default.is c.refusal-r.ensures c.refused.ensures

pub word-requires : goal.word-requires
word-requires c =
    let h = rw c.in-Ok.is at c.load-l.ensures.bounded in
    omega (arith, h)

pub returns : goal.returns
returns c = load-accepted _ c.load-l.ensures.value c.in-Ok.is c.word.ensures
