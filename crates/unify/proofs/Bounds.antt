-- What a unifier binds: variables below the count, each to a constant or a lower variable.
use Rattle.std.specs.Prelude.{Option, None, Some}
use mathlib.Core.Path.{◌≡◌, refl}
use mathlib.Core.Bool.{Bool, cond, false, true}
use mathlib.Core.List.{[], ◌++◌, ◌∷◌, List}
use Prim.Native.Nat.{◌<◌, ◌≤◌, suc, zero, ℕ}
use lib.Dec.{eqb, leb, ltb}
use lib.ListN.{get_or, length}
use borrow.Author.Tests.{leb-false, leb-true, ltb-true}
use native.Mathlib.Omega.{arith}
use Rattle.parlog.proofs.Bindings.{change_in, changes_in}
use Rattle.parlog.proofs.Bools.{and-true, split}
use Rattle.parlog.specs.Sane.{all_of}
use Rattle.parlog.specs.TableRules.{binding_ok}
use Rattle.parlog.specs.Tables.{binding_of, number_code}
use Rattle.parlog.specs.Unify.{bound, changed, chase, clash, follow, joined, meet, meet_vars, Outcome, unify, unify_from, unify_one, value, value_of}
use Rattle.parlog.specs.declared.Change.{Change}
use Rattle.parlog.specs.declared.Met.TheVariants.{Bind, Clash, Same}
use Rattle.parlog.specs.declared.Pair.{Pair}
use Rattle.parlog.specs.declared.Term.{Term}
use Rattle.parlog.specs.declared.Term.TheVariants.{Const, Var}
use Rattle.unify.specs.Pending.{AllLower, Lowers, no_change, no_pair, OutcomeLowers, top, Writable}

-- ---- values

top-follow : (a : ℕ) (b : Option Term) (f : ℕ → Term) → ((w : ℕ) → w < a → top (f w) ≤ suc w) → top (follow a b f) ≤ suc a
unfolding top follow
top-follow a None f h = omega arith
top-follow a (Some (Const c)) f h = omega arith
top-follow a (Some (Var w)) f h = split (leb a w) (λ e. rw e (omega arith)) (λ e. rw e (omega (arith, h w (leb-false a w e), leb-false a w e)))

top-chase : (vs : List (Option Term)) (n a : ℕ) → top (chase vs n a) ≤ suc a
unfolding chase
top-chase vs zero a = unfold top in (omega arith)
top-chase vs (suc n) a = top-follow a (binding_of vs a) (λ w. chase vs n w) (λ w lt. top-chase vs n w)

-- a value is no higher than its term
pub top-value : (vs : List (Option Term)) (t : Term) → top (value vs t) ≤ top t
unfolding value value_of
top-value vs (Const c) = omega arith
top-value vs (Var v) = unfold top in (top-chase vs (suc v) v)

-- of the first g variables each is one of as many or more
pub var-top : (v g n : ℕ) → v < g → g ≤ n → top (Var v) ≤ n
unfolding top
var-top v g n h k = omega arith

-- ---- changes

lowers-snoc : (n : ℕ) (cs : List Change) (c : Change) → AllLower n cs → Lowers n c → AllLower n (cs ++ (c ∷ []))
lowers-snoc n [] c h f = (f, tt)
lowers-snoc n (d ∷ cs) c h f = (h.0, lowers-snoc n cs c h.1 f)

module _ (n : ℕ) (cs : List Change) (h : AllLower n cs) where
  lowers-join : (v w : ℕ) → v < n → w < n → (a b : Bool) → ltb v w ≡ a → ltb w v ≡ b → OutcomeLowers n (joined cs (cond a (Bind w (Var v)) (cond b (Bind v (Var w)) Same)))
  unfolding joined top
  lowers-join v w hv hw true b p q = lowers-snoc n cs (record { var = w; to = Var v }) h (hw, omega (arith, ltb-true v w p))
  lowers-join v w hv hw false true p q = lowers-snoc n cs (record { var = v; to = Var w }) h (hv, omega (arith, ltb-true w v q))
  lowers-join v w hv hw false false p q = h

  lowers-same : (t : Bool) → OutcomeLowers n (joined cs (cond t Same Clash))
  unfolding joined
  lowers-same true = h
  lowers-same false = tt

  lowers-meet : (x y : Term) → top x ≤ n → top y ≤ n → OutcomeLowers n (joined cs (meet x y))
  unfolding meet joined top meet_vars
  lowers-meet (Const a) (Const b) hx hy = lowers-same (eqb a b)
  lowers-meet (Const a) (Var w) hx hy = lowers-snoc n cs (record { var = w; to = Const a }) h (hy, omega arith)
  lowers-meet (Var v) (Const b) hx hy = lowers-snoc n cs (record { var = v; to = Const b }) h (hx, omega arith)
  lowers-meet (Var v) (Var w) hx hy = lowers-join v w hx hy (ltb v w) (ltb w v) refl refl

lowers-one : (n : ℕ) (vs : List (Option Term)) (o : Outcome) (e : Pair) → OutcomeLowers n o → top e.left ≤ n → top e.right ≤ n → OutcomeLowers n (unify_one vs o e)
unfolding unify_one
lowers-one n vs clash e h p q = tt
lowers-one n vs (bound cs) e h p q =
    lowers-meet n cs h (value (changed vs cs) e.left) (value (changed vs cs) e.right)
    (omega (arith, top-value (changed vs cs) e.left)) (omega (arith, top-value (changed vs cs) e.right))

pub lowers-all : (n : ℕ) (vs : List (Option Term)) (es : List Pair) (o : Outcome) → OutcomeLowers n o
    → ((k : ℕ) → k < length es → (top (get_or es k no_pair).left ≤ n) × (top (get_or es k no_pair).right ≤ n)) → OutcomeLowers n (unify_from vs o es)
unfolding unify_from
lowers-all n vs [] o h b = h
lowers-all n vs (e ∷ es) o h b =
    lowers-all n vs es (unify_one vs o e) (lowers-one n vs o e h (b 0 (omega arith)).0 (b 0 (omega arith)).1) (λ k lt. b (suc k) (omega arith))

pub lowers_at : (n : ℕ) (cs : List Change) → AllLower n cs → (k : ℕ) → k < length cs → Lowers n (get_or cs k no_change)
lowers_at n [] h k lt = absurd (omega arith)
lowers_at n (c ∷ cs) h zero lt = h.0
lowers_at n (c ∷ cs) h (suc k) lt = lowers_at n cs h.1 k (omega arith)

pub unify-lowers : (n : ℕ) (vs : List (Option Term)) (es : List Pair)
    → ((k : ℕ) → k < length es → (top (get_or es k no_pair).left ≤ n) × (top (get_or es k no_pair).right ≤ n)) → OutcomeLowers n (unify vs es)
unfolding unify
unify-lowers n vs es b = lowers-all n vs es (bound []) tt b

-- ---- what a writer of the table asks

number-low : (n v : ℕ) (t : Term) → v < n → n ≤ 16777216 → binding_ok v (Some t) ≡ true → number_code (Some t) < 16777216
number-low n v (Const c) h g e = omega (arith, leb-true c 32767 e)
number-low n v (Var w) h g e = omega (arith, ltb-true w v e)

module _ (n : ℕ) (g : n ≤ 16777216) where
  change-low : (c : Change) → change_in n c ≡ true → (c.var < n) × (number_code (Some c.to) < 16777216)
  change-low c e =
      let a = and-true (ltb c.var n) (binding_ok c.var (Some c.to)) e in
      let h : c.var < n = ltb-true c.var n a.0 in
      (h, number-low n c.var c.to h g a.1)

  changes-low : (cs : List Change) → changes_in n cs ≡ true → (k : ℕ) → k < length cs → ((get_or cs k no_change).var < n) × (number_code (Some (get_or cs k no_change).to) < 16777216)
  unfolding all_of
  changes-low [] e k h = absurd (omega arith)
  changes-low (c ∷ cs) e zero h = change-low c (and-true (change_in n c) (changes_in n cs) e).0
  changes-low (c ∷ cs) e (suc k) h = changes-low cs (and-true (change_in n c) (changes_in n cs) e).1 k (omega arith)

  -- changes that keep the table rules can be written
  pub in-writable : (cs : List Change) → changes_in n cs ≡ true → Writable n cs
  in-writable cs e = record { rows = λ k h. (changes-low cs e k h).0; numbers = λ k h. (changes-low cs e k h).1 }
