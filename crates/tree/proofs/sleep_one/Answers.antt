use native.Mathlib.Omega.{arith}
use Rattle.tree.proofs.Marking.{marks-more, marks-skip}
use Rattle.tree.proofs.Passing.{sleep-not, sleep-now, sleep-still}
use Rattle.tree.proofs.sleep_one.Goals as goal

pub returns-then-not-is_below : goal.returns-then-not-is_below
returns-then-not-is_below c = let e = c.is_below.ensures in let h = c.if-not-is_below.true in
    record { table = sleep-not _ _ _ _ e h; marks = marks-skip _ _ _ _ c.requires.5 e h }

pub returns-then-m-eq-DORMANT : goal.returns-then-m-eq-DORMANT
returns-then-m-eq-DORMANT c = record { table = sleep-still _ _ _ _ c.mode-m.ensures c.if-m-eq-DORMANT.true; marks = marks-more _ _ _ _ c.requires.5 c.is_below.ensures c.if-not-is_below.false _ (λ z. omega (arith, z)) (omega arith) }

pub returns : goal.returns
returns c = let e = c.is_below.ensures in let h = c.if-not-is_below.false in
    record { table = sleep-now _ _ _ _ e h c.get-x.ensures c.dormant-y.ensures c.put.ensures; marks = marks-more _ _ _ _ c.requires.5 e h _ (λ z. omega (arith, z)) (omega arith) }
