-- The laws of the pairs of a match, and the ways through match_of and equate_of.
use Rattle.std.specs.Prelude.{Option}
use mathlib.Core.Path.{◌∙◌, ◌≡◌, ap, refl, sym}
use mathlib.Core.Bool.{Bool}
use mathlib.Core.List.{[], ◌∷◌, List}
use Prim.Native.Nat.{◌+◌, ◌≤◌, suc, zero, ℕ}
use lib.Dec.{eqb, ltb}
use lib.ListN.{get_or, length, take}
use borrow.Author.Tests.{le-ltb}
use native.Mathlib.Omega.{arith}
use Rattle.decide.proofs.Laws.{decide-cong}
use Rattle.decide.specs.Decision.{Decides, held_by, Shifted}
use Rattle.decide.specs.declared.Decision.{Decision}
use Rattle.decide.specs.declared.arguments.Call.{Call}
use Rattle.parlog.proofs.Bools.{or-none, split}
use Rattle.parlog.specs.Program.{out_count}
use Rattle.parlog.specs.Unify.{decide, equate_of, head_side, input_value, match_of, out_after, pair_of, pairs_of, shift}
use Rattle.parlog.specs.declared.Pair.{Pair}
use Rattle.parlog.specs.declared.Term.{Term}
use Rattle.parlog.specs.declared.Term.TheVariants.{Const, Var}
use Rattle.unify.specs.Pending.{Below, top}

-- ---- four pairs

four-list : {A : Type 0} (d : A) (n : List A) → length n ≡ 4 → n ≡ get_or n 0 d ∷ get_or n 1 d ∷ get_or n 2 d ∷ get_or n 3 d ∷ []
four-list d [] h = absurd (omega arith)
four-list d (a ∷ []) h = absurd (omega arith)
four-list d (a ∷ b ∷ []) h = absurd (omega arith)
four-list d (a ∷ b ∷ c ∷ []) h = absurd (omega arith)
four-list d (a ∷ b ∷ c ∷ e ∷ []) h = refl
four-list d (a ∷ b ∷ c ∷ e ∷ f ∷ t) h = absurd (omega arith)

same-pairs : {ms ms' : List ℕ} {xs xs' ts ts' : List Term} (b first out : ℕ) → ms ≡ ms' → xs ≡ xs' → ts ≡ ts' → pairs_of ms xs b ts first out ≡ pairs_of ms' xs' b ts' first out
same-pairs b first out p q r = cc

module _ (ms : List ℕ) (xs ts : List Term) (b first own : ℕ) (lm : length ms ≡ 4) (lx : length xs ≡ 4) (lt : length ts ≡ 4) where
  pub pairs-four : {o1 o2 o3 : ℕ} {p0 p1 p2 p3 : Pair} → o1 ≡ out_after (get_or ms 0 0) own → o2 ≡ out_after (get_or ms 1 0) o1 → o3 ≡ out_after (get_or ms 2 0) o2
      → p0 ≡ pair_of (get_or ms 0 0) (get_or xs 0 (Const 0)) b (get_or ts 0 (Const 0)) first own → p1 ≡ pair_of (get_or ms 1 0) (get_or xs 1 (Const 0)) b (get_or ts 1 (Const 0)) first o1
      → p2 ≡ pair_of (get_or ms 2 0) (get_or xs 2 (Const 0)) b (get_or ts 2 (Const 0)) first o2 → p3 ≡ pair_of (get_or ms 3 0) (get_or xs 3 (Const 0)) b (get_or ts 3 (Const 0)) first o3
      → p0 ∷ p1 ∷ p2 ∷ p3 ∷ [] ≡ pairs_of ms xs b ts first own
  unfolding pairs_of
  pairs-four e1 e2 e3 f0 f1 f2 f3 = rw (f0, f1, f2, f3, e3, e2, e1) (sym (same-pairs b first own (four-list 0 ms lm) (four-list (Const 0) xs lx) (four-list (Const 0) ts lt)))

take-pairs : (n : ℕ) (ms : List ℕ) (xs ts : List Term) (b first out : ℕ) → take n (pairs_of ms xs b ts first out) ≡ pairs_of (take n ms) (take n xs) b (take n ts) first out
unfolding pairs_of
take-pairs zero ms xs ts b first out = refl
take-pairs (suc n) [] xs ts b first out = refl
take-pairs (suc n) (m ∷ ms) [] ts b first out = refl
take-pairs (suc n) (m ∷ ms) (x ∷ xs) [] b first out = refl
take-pairs (suc n) (m ∷ ms) (x ∷ xs) (t ∷ ts) b first out = ap (λ (r : List Pair). pair_of m x b t first out ∷ r) (take-pairs n ms xs ts b first (out_after m out))

-- ---- bounds

top_shift : (base : ℕ) (t : Term) → top (shift base t) ≤ top t + base
unfolding top shift
top_shift base (Const c) = omega arith
top_shift base (Var v) = omega arith

pub top-shifted : (base n : ℕ) (t : Term) {x : Term} → x ≡ shift base t → top t + base ≤ n → top x ≤ n
top-shifted base n t e h = rw e (omega (arith, top_shift base t))

top_head : (m : ℕ) (t : Term) (first out : ℕ) (ms : List ℕ) (n : ℕ) → top t + first ≤ n → first + out + out_count (m ∷ ms) ≤ n → top (head_side m t first out) ≤ n
unfolding head_side out_count
top_head m t first out ms n h g = split (eqb m 0)
    (λ e. rw e (omega (arith, top_shift first t)))
    (λ e. let q : first + out + suc (out_count ms) ≤ n = rw e at g in rw e (unfold top in (omega arith)))

out-rest : (m out : ℕ) (ms : List ℕ) → out_after m out + out_count ms ≡ out + out_count (m ∷ ms)
unfolding out_after out_count
out-rest m out ms = split (eqb m 0) (λ e. rw e) (λ e. rw e (omega arith))

-- the first pairs have variables below n
pub pairs_below : (n base first : ℕ) (count : ℕ) (ms : List ℕ) (xs ts : List Term) (out : ℕ) → Shifted xs base count n → Shifted ts first count n
    → first + out + out_count (take count ms) ≤ n → Below n count (pairs_of ms xs base ts first out)
unfolding pairs_of
pairs_below n base first zero ms xs ts out hx ht ho k h = absurd (omega arith)
pairs_below n base first (suc count) [] xs ts out hx ht ho k h = unfold top in (omega arith, omega arith)
pairs_below n base first (suc count) (m ∷ ms) [] ts out hx ht ho k h = unfold top in (omega arith, omega arith)
pairs_below n base first (suc count) (m ∷ ms) (x ∷ xs) [] out hx ht ho k h = unfold top in (omega arith, omega arith)
pairs_below n base first (suc count) (m ∷ ms) (x ∷ xs) (t ∷ ts) out hx ht ho zero h =
    unfold pair_of in (omega (arith, top_shift base x, hx 0 (omega arith)), top_head m t first out (take count ms) n (ht 0 (omega arith)) ho)
pairs_below n base first (suc count) (m ∷ ms) (x ∷ xs) (t ∷ ts) out hx ht ho (suc k) h =
    pairs_below n base first count ms xs ts (out_after m out) (λ j l. hx (suc j) (omega arith)) (λ j l. ht (suc j) (omega arith))
    (omega (arith, ho, out-rest m out (take count ms))) k (omega arith)

pub below_one : (n : ℕ) (p : Pair) → top p.left ≤ n → top p.right ≤ n → Below n 1 (p ∷ p ∷ p ∷ p ∷ [])
below_one n p h g zero lt = (h, g)
below_one n p h g (suc k) lt = absurd (omega arith)

-- ---- the ways through match_of and equate_of

module _ (vs : List (Option Term)) {r : Decision} where
  pub match_is : (call : Call) (ts : List Term) (first own : ℕ) {es : List Pair} → es ≡ pairs_of call.modes call.args call.base ts first own
      → Decides (decide vs (take call.arity es) (held_by vs (record { bar = 0; call = call }))) r
      → Decides (match_of vs (take call.arity call.modes) (take call.arity call.args) call.base (take call.arity ts) first own) r
  unfolding match_of
  match_is call ts first own {es} e h =
      rw same at h
    where
      inputs : ℕ → Bool
      inputs = input_value vs (take call.arity call.modes) (take call.arity call.args) call.base

      test : (v : ℕ) → held_by vs (record { bar = 0; call = call }) v ≡ inputs v
      test v = unfold held_by in (rw (le-ltb v 0 (omega arith)))

      same : decide vs (take call.arity es) (held_by vs (record { bar = 0; call = call }))
          ≡ decide vs (pairs_of (take call.arity call.modes) (take call.arity call.args) call.base (take call.arity ts) first own) inputs
      same =
          decide-cong vs (take call.arity es) _ inputs test
          ∙ ap (λ (q : List Pair). decide vs q inputs) (rw e (take-pairs call.arity call.modes call.args ts call.base first own))

  pub equate-is : (t u : Term) (bar : ℕ) (call : Call) → call.arity ≡ 0 → {x y : Term} → x ≡ shift call.base t → y ≡ shift call.base u
      → Decides (decide vs (record { left = x; right = y } ∷ []) (held_by vs (record { bar = bar; call = call }))) r
      → Decides (equate_of vs t u call.base bar) r
  unfolding equate_of
  equate-is t u bar call z {x} {y} ex ey h =
      rw same at h
    where
      test : (v : ℕ) → held_by vs (record { bar = bar; call = call }) v ≡ ltb v bar
      test v = unfold held_by input_value in (rw z (or-none (ltb v bar)))

      same : decide vs (record { left = x; right = y } ∷ []) (held_by vs (record { bar = bar; call = call }))
          ≡ decide vs (record { left = shift call.base t; right = shift call.base u } ∷ []) (λ v. ltb v bar)
      same = decide-cong vs (record { left = x; right = y } ∷ []) _ (λ v. ltb v bar) test ∙ rw (ex, ey)
