-- The tree of parents: one law for each way through the code that reads it.
use Rattle.std.specs.Prelude.{Some, None}
use mathlib.Core.Path.{◌∙◌, ◌≡◌, refl}
use mathlib.Core.Logic.{◌≢◌}
use mathlib.Core.Bool.{◌||◌, cond, false}
use mathlib.Core.List.{[], List}
use Prim.Native.Nat.{◌+◌, ◌-◌, ◌<◌, ◌≤◌, suc, zero, ℕ}
use lib.Dec.{eqb, ltb}
use lib.ListN.{length}
use borrow.Author.Tests.{eq-eqb, eqb-false, eqb-true, ltb-false, ltb-true, ne_eqb}
use native.Mathlib.Omega.{arith}
use Rattle.std.proofs.lemmas.Bool.{false_from_ne_true}
use Rattle.parlog.proofs.Bools.{split}
use Rattle.parlog.proofs.Fine.{below-child, child-lower}
use Rattle.parlog.proofs.Kin.{below_at, below-test, Kin}
use Rattle.parlog.specs.Codes.{is_tag, try_clause}
use Rattle.parlog.specs.Notions.{Below, deeper, next_below}
use Rattle.parlog.specs.Tables.{at, procs_of, State}
use Rattle.parlog.specs.Tree.{below, enclosing, try_above}
use Rattle.parlog.specs.declared.Process.{Process}
use Rattle.rows.proofs.Tables.{procs-length}
use Rattle.tree.specs.Family.{Childless, Falls}

-- ---- the nearest try-clause above

pub enclosing-starts : (l : List ℕ) (n p : ℕ) → enclosing (procs_of l n) p ≡ try_above (n - 0) (procs_of l n) p
unfolding enclosing
enclosing-starts l n p = let e : n - 0 ≡ n = omega arith in rw (procs-length, e)

-- of n processes above, the first k are behind
pub above-end : (n k : ℕ) (ps : List Process) (a : ℕ) → n ≤ k → try_above (n - k) ps a ≡ None
unfolding try_above
above-end n k ps a h = let e : n - k ≡ 0 = omega arith in rw e

module _ (n k : ℕ) (ps : List Process) (a : ℕ) (more : k < n) where
  above_step : try_above (n - k) ps a ≡ cond (eqb a 0) None (cond (is_tag try_clause (at ps (at ps a).parent).tag) (Some (at ps a).parent) (try_above (n - (k + 1)) ps (at ps a).parent))
  unfolding try_above
  above_step = let e : n - k ≡ suc (n - (k + 1)) = omega arith in rw e

  pub above_root : a ≡ 0 → try_above (n - k) ps a ≡ None
  above_root z = above_step ∙ rw (eq-eqb a 0 z)

  module _ (ne : a ≡ 0 → ⊥) {u v : ℕ} (eu : u ≡ (at ps a).parent) (ev : v ≡ (at ps u).tag) where
    pub above-met : v ≡ 5 → try_above (n - k) ps a ≡ Some u
    above-met h = above_step ∙ rw (ne_eqb a 0 ne, ← eu, ← ev, eq-eqb v 5 h)

    pub above_on : (v ≡ 5 → ⊥) → try_above (n - k) ps a ≡ try_above (n - (k + 1)) ps u
    above_on h = above_step ∙ rw (ne_eqb a 0 ne, ← eu, ← ev, ne_eqb v 5 h)

-- ---- where parents fall

module _ (ps : List Process) (falls : Falls ps) (p : ℕ) where
  abbrev here : State
  here = record { procs = ps; vars = [] }

  kin : Kin here
  kin = record { lower = falls }

  -- what is below p has the higher number
  higher : {a : ℕ} → Below here p a → p < a
  higher (next_below c) = child-lower here kin p c
  higher (deeper {c = j} b c) = let u = higher b in let v = child-lower here kin j c in omega arith

  -- nothing at p or before it is below p
  pub below-low : (a : ℕ) → a < length ps → a ≤ p → below ps p a ≡ false
  below-low a h l = false_from_ne_true (below ps p a) (λ e. let u = higher (below_at here p kin a h e) in omega arith)

  -- one parent up
  pub below_up : (a : ℕ) → a < length ps → p < a → below ps p a ≡ (eqb (at ps a).parent p || below ps p (at ps a).parent)
  below_up a h l =
      let ne : a ≢ 0 = λ z. omega (arith, z) in
      split (eqb (at ps a).parent p)
      (λ e. rw e (below-test here p kin a h (next_below (record { there = h; other = ne; parent = eqb-true (at ps a).parent p e }))))
      (λ e. rw e (below-child here kin (at ps a).parent p (record { there = h; other = ne; parent = refl }) (eqb-false (at ps a).parent p e)))

  -- nothing before the first child of p is below p
  none_yet : (f q a : ℕ) → Childless ps p q → a ≤ f → a < length ps → a < q → below ps p a ≡ false
  none_yet zero q a free u h v = below-low a h (omega arith)
  none_yet (suc f) q a free u h v = split (ltb p a)
      (λ e. let w : p < a = ltb-true p a e in
      let k : (at ps a).parent < a = falls a h (λ z. omega (arith, z)) in
      below_up a h w ∙ rw (ne_eqb (at ps a).parent p (free a w v)) (none_yet f q (at ps a).parent free (omega arith) (omega arith) (omega arith)))
      (λ e. below-low a h (ltb-false p a e))

  pub below_none : (q a : ℕ) → Childless ps p q → a < length ps → a < q → below ps p a ≡ false
  below_none q a free h v = none_yet a q a free (omega arith) h v

-- ---- the way to the first child

module _ (l : List ℕ) (n p : ℕ) where
  pub child-starts : Childless (procs_of l n) p (p + 1)
  child-starts i u v z = omega arith

  pub child-on : (q : ℕ) → Childless (procs_of l n) p q → {v : ℕ} → v ≡ (at (procs_of l n) q).parent → (v ≡ p → ⊥) → Childless (procs_of l n) p (q + 1)
  child-on q free {v} ev ne i u w z = split (ltb i q)
      (λ e. free i u (ltb-true i q e) z)
      (λ e. let k : q ≤ i = ltb-false i q e in
      let s : i ≡ q = omega arith in
      ne (ev ∙ (rw s at z)))
