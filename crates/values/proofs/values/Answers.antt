use Rattle.values.proofs.Laws.{inside-ruled, values-gathered, values-refused}
use Rattle.entry.proofs.Entering.{inside_of}
use native.Mathlib.Omega.{arith}
use Rattle.values.proofs.values.Goals as goal

pub returns-in_default : goal.returns-in_default
returns-in_default c = values-refused _ _ _ _ c.enter-e.ensures.enter_says c.in_default.is c.refusal-r.ensures

pub gather-requires : goal.gather-requires
gather-requires c =
    let says = c.enter-e.ensures in
    let i = inside_of _ _ _ says.enter_says c.in-Ok.is in
    (omega (arith, i.head), i.cells, i.goal, inside-ruled _ _ _ _ _ i)

pub returns : goal.returns
returns c =
    values-gathered _ _ _ _ c.enter-e.ensures.enter_says c.in-Ok.is c.gather.ensures
