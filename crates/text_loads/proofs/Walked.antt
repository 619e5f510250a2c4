-- The tests of a text's records are the loader's, and one more.
use Rattle.parlog.proofs.Answered.{ok-both}
use Rattle.std.specs.Prelude.{Result, Ok, Err}
use Rattle.parlog.specs.Answer.{Answer}
use mathlib.Core.Path.{◌∙◌, ◌≡◌, refl, sym}
use mathlib.Core.Bool.{◌&&◌, Bool, cond, false, true}
use mathlib.Core.List.{List}
use Prim.Native.Nat.{◌+◌, ◌<◌, ◌≤◌, suc, zero, ℕ}
use lib.Dec.{eqb, leb, ltb}
use lib.ListN.{length}
use borrow.Author.Tests.{leb-false, leb-true}
use native.Mathlib.Omega.{arith}
use Rattle.load.proofs.Accepted.{all-passed}
use Rattle.parlog.proofs.Bools.{never, split}
use Rattle.parlog.specs.Image.{relation_kind}
use Rattle.parlog.specs.Load.{after, broken, load_end, load_of, long, nothing_read, progressed, records, refusal, verdict}
use Rattle.parlog.specs.Records.{cut, kind_at, record_end, walk}
use Rattle.parlog.specs.declared.Progress.{Progress}
use Rattle.text_names.specs.Names.{Name}
use Rattle.text_program.specs.Parsing.{once_by, records_in, repeated, text_verdict}

step : (b q again : Bool) (v : Result Progress ℕ) (f h : Progress → Answer (ℕ × ℕ)) (at r c : ℕ) (end : Answer (ℕ × ℕ)) → ((t : Progress) → f t ≡ Ok (r, c) → h t ≡ Ok (r, c))
    → cond b (cond q (broken at) (after f at (once_by again v))) end ≡ Ok (r, c) → cond b (cond q (broken at) (after h at v)) end ≡ Ok (r, c)
step false q again v f h at r c end i e = e
step true true again v f h at r c end i e = e
step true false again (Err m) f h at r c end i e = e
step true false true (Ok t) f h at r c end i e = absurd (let z : ◌≡◌ {A = ℕ} 0 1 = cc in omega arith)
step true false false (Ok t) f h at r c end i e = i t e

-- how many relations are known behind a record
record Known-more (g : Progress) (kind m : ℕ) : Type 0 where
  pub least : g.relations ≤ m
  pub most : m ≤ g.relations + 1
  pub yes : eqb kind 1 ≡ true → g.relations < m
  pub back : g.relations < m → eqb kind 1 ≡ true

more-relations : (s : List ℕ) (g : Progress) (at kind : ℕ) → Known-more g kind (progressed s g at kind).relations
unfolding progressed
more-relations s g at kind =
    split (eqb kind 1) (λ e. rw e (record { least = omega arith; most = omega arith; yes = λ z. omega arith; back = λ z. e }))
    (λ e. split (eqb kind 2)
    (λ f. rw (e, f) (record { least = omega arith; most = omega arith; yes = λ z. never (sym e ∙ z); back = λ z. absurd (omega arith) }))
    (λ f. rw (e, f) (record { least = omega arith; most = omega arith; yes = λ z. never (sym e ∙ z); back = λ z. absurd (omega arith) })))

goes-more : (s : List ℕ) (g t : Progress) (at : ℕ) → cut s at ≡ false → verdict s g at ≡ Ok t → Known-more g (kind_at s at) t.relations
goes-more s g t at e v = let p = all-passed s g t at e v in (rw p.next at (more-relations s g at (kind_at s at)))

module _ (rels : List Name) (s : List ℕ) where
  abbrev texted : (Progress → Answer (ℕ × ℕ)) → ℕ → Progress → Answer (ℕ × ℕ)
  texted rest at g = after rest at (text_verdict rels s g at)

  pub passes : (n at : ℕ) (g : Progress) (r c : ℕ) → walk s broken texted (load_end s) n at g ≡ Ok (r, c) → records s n at g ≡ Ok (r, c)
  unfolding walk text_verdict
  passes zero at g r c e = e
  passes (suc n) at g r c e =
      step (ltb at (length s)) (cut s at) (eqb (kind_at s at) relation_kind && repeated rels g.relations) (verdict s g at)
      (walk s broken texted (load_end s) n (record_end s at)) (records s n (record_end s at)) at r c (load_end s g) (λ t f. passes n (record_end s at) t r c f) e

  -- THE LAW: what passes as a text's image loads
  pub text-loads : (r c : ℕ) → records_in rels s ≡ Ok (r, c) → long s ≡ false → load_of s ≡ Ok (r, c)
  unfolding records_in load_of
  text-loads r c e h = rw h (passes (length s) 0 nothing_read r c e)

  -- ---- and the other way, where no relation is repeated

  module _ (r c : ℕ) (apart : (k : ℕ) → k < r → repeated rels k ≡ false) where
    ends_there : (g : Progress) → load_end s g ≡ Ok (r, c) → g.relations ≤ r
    ends_there g e = go (eqb g.kind 3) e
      where
        go : (b : Bool) → cond {A = Answer (ℕ × ℕ)} b (Ok (g.relations, g.clauses)) (Err (refusal 7 (length s))) ≡ Ok (r, c) → g.relations ≤ r
        go true f = let z = (ok-both f).0 in omega arith
        go false f = absurd (let z : ◌≡◌ {A = ℕ} 0 1 = cc in omega arith)

    not-again : (g : Progress) (at : ℕ) → (eqb (kind_at s at) 1 ≡ true → g.relations < r) → (eqb (kind_at s at) relation_kind && repeated rels g.relations) ≡ false
    not-again g at h = go (eqb (kind_at s at) 1) h
      where
        go : (b : Bool) → (b ≡ true → g.relations < r) → (b && repeated rels g.relations) ≡ false
        go true h = apart g.relations (h refl)
        go false h = refl

    abbrev Both : ℕ → ℕ → Progress → Type 0
    Both n at g = (g.relations ≤ r) × (walk s broken texted (load_end s) n at g ≡ Ok (r, c))

    stays : (n at : ℕ) (g : Progress) → records s n at g ≡ Ok (r, c) → Both n at g
    unfolding walk text_verdict
    stays zero at g e = (ends_there g e, e)
    stays (suc n) at g e = go (ltb at (length s)) (cut s at) refl (verdict s g at) refl e (λ t f. stays n (record_end s at) t f)
      where
        go : (b q : Bool) → cut s at ≡ q → (v : Result Progress ℕ) → verdict s g at ≡ v → cond b (cond q (broken at) (after (records s n (record_end s at)) at v)) (load_end s g) ≡ Ok (r, c)
            → ((t : Progress) → records s n (record_end s at) t ≡ Ok (r, c) → Both n (record_end s at) t)
            → (g.relations ≤ r) × (cond b (cond q (broken at) (after (walk s broken texted (load_end s) n (record_end s at)) at (once_by (eqb (kind_at s at) relation_kind && repeated rels g.relations) v))) (load_end s g) ≡ Ok (r, c))
        go false q f v d e more = (ends_there g e, e)
        go true true f v d e more = absurd (let z : ◌≡◌ {A = ℕ} 0 1 = cc in omega arith)
        go true false f (Err m) d e more = absurd (let z : ◌≡◌ {A = ℕ} 0 1 = cc in omega arith)
        go true false f (Ok t) d e more =
            let i = more t e in
            let m = goes-more s g t at f d in
            let l = i.0 in
            let u = m.least in
            (omega arith, rw (not-again g at (λ x. let y = m.yes x in omega arith)) i.1)

    pub loads-text : load_of s ≡ Ok (r, c) → records_in rels s ≡ Ok (r, c)
    unfolding records_in load_of
    loads-text e = go (long s) e
      where
        go : (b : Bool) → cond b (Err (refusal 1 0)) (records s (length s) 0 nothing_read) ≡ Ok (r, c) → walk s broken texted (load_end s) (length s) 0 nothing_read ≡ Ok (r, c)
        go true f = absurd (let z : ◌≡◌ {A = ℕ} 0 1 = cc in omega arith)
        go false f = (stays (length s) 0 nothing_read f).1

  -- ---- where it passes, no relation is repeated

  module _ (r c k : ℕ) (below : k < r) where
    ends-not : (g : Progress) → g.relations ≤ k → load_end s g ≡ Ok (r, c) → repeated rels k ≡ false
    ends-not g l e = go (eqb g.kind 3) e
      where
        go : (b : Bool) → cond {A = Answer (ℕ × ℕ)} b (Ok (g.relations, g.clauses)) (Err (refusal 7 (length s))) ≡ Ok (r, c) → repeated rels k ≡ false
        go true f = let z = (ok-both f).0 in absurd (omega arith)
        go false f = absurd (let z : ◌≡◌ {A = ℕ} 0 1 = cc in omega arith)

    abbrev Once : ℕ → ℕ → Progress → Type 0
    Once n at g = g.relations ≤ k → walk s broken texted (load_end s) n at g ≡ Ok (r, c) → repeated rels k ≡ false

    here-or-later : (g t : Progress) (at : ℕ) → Known-more g (kind_at s at) t.relations → g.relations ≤ k → (eqb (kind_at s at) relation_kind && repeated rels g.relations) ≡ false → (t.relations ≤ k → repeated rels k ≡ false) → repeated rels k ≡ false
    here-or-later g t at m l e later =
        split (leb t.relations k) (λ f. later (leb-true t.relations k f))
        (λ f. let h = leb-false t.relations k f in
        let u = m.most in
        let z : g.relations ≡ k = omega arith in
        let q = m.back (omega arith) in
        (rw (q, z) at e))

    once-from : (n at : ℕ) (g : Progress) → Once n at g
    unfolding walk text_verdict
    once-from zero at g l e = ends-not g l e
    once-from (suc n) at g l e = go (ltb at (length s)) (cut s at) refl (verdict s g at) refl (eqb (kind_at s at) relation_kind && repeated rels g.relations) refl e (λ t. once-from n (record_end s at) t)
      where
        go : (b q : Bool) → cut s at ≡ q → (v : Result Progress ℕ) → verdict s g at ≡ v → (a : Bool) → (eqb (kind_at s at) relation_kind && repeated rels g.relations) ≡ a
            → cond b (cond q (broken at) (after (walk s broken texted (load_end s) n (record_end s at)) at (once_by a v))) (load_end s g) ≡ Ok (r, c)
            → ((t : Progress) → Once n (record_end s at) t) → repeated rels k ≡ false
        go false q f v d a w e more = ends-not g l e
        go true true f v d a w e more = absurd (let z : ◌≡◌ {A = ℕ} 0 1 = cc in omega arith)
        go true false f (Err m) d a w e more = absurd (let z : ◌≡◌ {A = ℕ} 0 1 = cc in omega arith)
        go true false f (Ok t) d true w e more = absurd (let z : ◌≡◌ {A = ℕ} 0 1 = cc in omega arith)
        go true false f (Ok t) d false w e more = here-or-later g t at (goes-more s g t at f d) l w (λ h. more t h e)

    pub once-each : records_in rels s ≡ Ok (r, c) → repeated rels k ≡ false
    unfolding records_in
    once-each e = once-from (length s) 0 nothing_read (omega arith) e
