use borrow.Author.Rules.{rules}
use native.Mathlib.Omega.{arith}
use mathlib.Core.Path.{refl, sym}
use borrow.Author.Tests.{eq-eqb, ne_eqb}
use Rattle.parlog.specs.Load.{verdict}
use Rattle.parlog.specs.Records.{cut}
use Rattle.parlog.proofs.Walk.{whole}
use Rattle.load.proofs.Told.{told-err, told-ok}
use Rattle.load.proofs.Turn.{ends, goes, passed, stops}
use Rattle.load.proofs.Indexing.{holds-end, holds_fits, holds-next, holds-start}
use Rattle.load.proofs.Heads.{passed-heads}
use Rattle.load.proofs.Accepted.{all-passed, reached, kept, nothing-reached}
use Rattle.load.proofs.records.Goals as goal

pub loop-at-init : goal.loop-at-init
loop-at-init c = let s = c.args.s.now in (refl, record { relations = omega arith; clauses = omega arith; block = omega arith }, nothing-reached s, record { arity = λ k h. absurd (omega arith) }, refl, holds-start s c.told-ix c.requires.1)

pub returns-in-Err-clause-value : goal.returns-in-Err-clause-value
returns-in-Err-clause-value c = let l = c.loop-at in
    rw (c.refused.ensures, ← stops c.args.s.now l.g l.at _ c.loop-at-test.true (told-err _ _ _ (sym c.in-Err.ensures.0))) l.invariant.0

pub note-requires : goal.note-requires
note-requires c = let l = c.loop-at in
    let s = c.args.s.now in
    let t = told-ok _ _ _ _ (sym c.in-Ok.ensures.0) in
    let b = passed (cut s l.at) 2 (verdict s l.g l.at) _ t.0 in
    let p = all-passed s l.g _ l.at b.0 b.1 in
    holds_fits s l.g _ l.at l.invariant.2 p c.requires.0 l.invariant.5 c.in-Ok.ensures.1.1

pub loop-at-smaller : goal.loop-at-smaller
loop-at-smaller c = let l = c.loop-at in
    let s = c.args.s.now in
    let t = told-ok _ _ _ _ (sym c.in-Ok.ensures.0) in
    let p = passed (cut s l.at) 2 (verdict s l.g l.at) _ t.0 in
    let w = whole s l.at p.0 in
    omega arith

pub loop-at-preserved : goal.loop-at-preserved
loop-at-preserved c = let l = c.loop-at in
    let s = c.args.s.now in
    let t = told-ok _ _ _ _ (sym c.in-Ok.ensures.0) in
    let b = passed (cut s l.at) 2 (verdict s l.g l.at) _ t.0 in
    let p = all-passed s l.g _ l.at b.0 b.1 in (
      rw c.end_at-end.ensures.0 (rw (goes s l.g l.at _ c.loop-at-test.true t.0) at l.invariant.0),
      c.in-Ok.ensures.1.0,
      rw c.end_at-end.ensures.0 (reached s l.g _ l.at l.invariant.2 p),
      rw c.byte_at.ensures.0 (kept s l.g _ l.at l.invariant.2 p l.arities l.invariant.4 l.invariant.3),
      search rules,
      rw c.note.ensures.0 (holds-next s l.g _ l.at l.invariant.2 p c.requires.0 l.invariant.5 c.in-Ok.ensures.1.1 t.1 c.note.ensures.1),
    )

pub returns-then-g-eq-GOAL_KIND-clause-value : goal.returns-then-g-eq-GOAL_KIND-clause-value
returns-then-g-eq-GOAL_KIND-clause-value c = let l = c.loop-at in
    rw (ends c.args.s.now l.g l.at c.loop-at-test.false, eq-eqb _ _ c.if-g-eq-GOAL_KIND.true) at l.invariant.0

pub returns-then-g-eq-GOAL_KIND-clause-indexed_of : goal.returns-then-g-eq-GOAL_KIND-clause-indexed_of
returns-then-g-eq-GOAL_KIND-clause-indexed_of c = let l = c.loop-at in
    let s = c.args.s.now in
    let e = rw (ends s l.g l.at c.loop-at-test.false, eq-eqb _ _ c.if-g-eq-GOAL_KIND.true) at l.invariant.0 in
    holds-end s l.g l.invariant.1.relations l.invariant.1.clauses l.invariant.5 c.if-g-eq-GOAL_KIND.true (passed-heads s _ _ c.requires.0 (sym e))

pub returns-else-g-eq-GOAL_KIND-clause-value : goal.returns-else-g-eq-GOAL_KIND-clause-value
returns-else-g-eq-GOAL_KIND-clause-value c = let l = c.loop-at in
    rw c.refused-else-g-eq-GOAL_KIND.ensures (rw (ends c.args.s.now l.g l.at c.loop-at-test.false, ne_eqb _ _ c.if-g-eq-GOAL_KIND.false) at l.invariant.0)
