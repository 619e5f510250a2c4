use native.Mathlib.Omega.{arith}
use mathlib.Core.Path.{refl}
use Rattle.place.proofs.Rows.{row-fault, row-right}
use Rattle.parlog.specs.Body.{clause_body}
use Rattle.load_body.proofs.Goals.{body_refused, guard_refused, within}
use Rattle.load_body.proofs.clause_body.Goals as goal

pub returns-in_err-b : goal.returns-in_err-b
returns-in_err-b c = let a = c.args in
    let f = row-fault _ _ c.in_err-b.ensures.0 in
    rw (c.from_residual.ensures, guard_refused a.s.now a.at (rw (← c.byte_at-a.ensures.0) f)) (refl, tt)

pub returns-in_err-e : goal.returns-in_err-e
returns-in_err-e c = let a = c.args in
    let g = row-right _ _ _ c.in_ok-b.ensures.0 in
    let f = row-fault _ _ c.in_err-e.ensures.0 in
    rw (c.from_residual-in_err-e.ensures, body_refused a.s.now a.at (rw (← c.byte_at-a.ensures.0, ← g.1) f)) (refl, tt)

pub returns : goal.returns
unfolding clause_body
returns c = let g = row-right _ _ _ c.in_ok-b.ensures.0 in
    let h = row-right _ _ _ c.in_ok-e.ensures.0 in
    let s = c.then_some.ensures in
    (rw (s, ← c.byte_at-a.ensures.0, ← c.byte_at-m.ensures.0, ← c.byte_at-v.ensures.0, ← c.word_at-w.ensures.0, g.0, ← g.1, h.0, ← h.1) refl, rw s (within _ _ _ (omega (arith, c.in_ok-b.ensures.1))))
