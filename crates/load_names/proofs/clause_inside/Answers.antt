use Rattle.load_names.proofs.Named.{guard-in, inside-fault, inside-right}
use Rattle.place.proofs.Rows.{row-fault, row-right, row-some}
use lib.ListN.{length}
use native.Mathlib.Omega.{arith}
use Rattle.load_names.proofs.clause_inside.Goals as goal

pub terms_named-head-requires : goal.terms_named-head-requires
terms_named-head-requires c = let a = c.args in
    let g = guard-in a.known.now.image.now a.known.now.at c.byte_at-a.result (length a.known.now.image.now) c.byte_at-a.ensures.0 c.requires in
    omega arith

pub goal_named-requires : goal.goal_named-requires
goal_named-requires c = let a = c.args in
    let g = guard-in a.known.now.image.now a.known.now.at c.byte_at-a.result (length a.known.now.image.now) c.byte_at-a.ensures.0 c.requires in
    omega arith

pub returns-in_default : goal.returns-in_default
returns-in_default c = let a = c.args in
    let f = row-fault _ _ c.in_default.ensures.0 in
    inside-fault a.known.now.image.now a.known.now.before.relations a.known.now.at (rw (← c.byte_at-a.ensures.0, ← c.byte_at-v.ensures.0) f)

pub returns : goal.returns
returns c = let a = c.args in
    let f = row-right _ _ _ c.in-Some.ensures.0 in
    let f1 = f.1 in
    let h = rw (c.byte_at-a.ensures.0, c.byte_at-v.ensures.0) at f.0 in
    rw (← inside-right a.known.now.image.now a.known.now.before.relations a.known.now.at h, c.terms_named-head.ensures, c.is_some.ensures, c.goal_named-2.ensures.0, row-some _ _, f1, c.byte_at-v.ensures.0, c.byte_at-a.ensures.0)
