-- The laws of pending bindings: one for each way through the code.
use Rattle.std.specs.Prelude.{None, Option, Some}
use mathlib.Core.Path.{ap, refl, sym, ◌∙◌, ◌≡◌}
use mathlib.Core.Bool.{Bool, cond, false, not, true, ◌||◌}
use mathlib.Core.List.{[], List, ◌++◌, ◌∷◌}
use Prim.Native.Nat.{suc, zero, ℕ, ◌*◌, ◌+◌, ◌<◌, ◌≤◌}
use lib.Dec.{eqb, leb}
use lib.ListN.{drop, drop_of_length-le, get_or, length, length-set, set, take}
use Rattle.std.proofs.lemmas.List.{length-take}
use lib.Seq.{drop-cons, get_or-set_other, get_or-set_same, get_or-take, length-take-le, take-suc-set}
use borrow.Author.Tests.{eqb-false, eqb-true, le-leb, leb-false, lt-leb}
use native.Mathlib.Omega.{arith}
use native.Mathlib.Numerals.{add-one}
use Rattle.parlog.proofs.Unified.{from-clash}
use Rattle.parlog.specs.Delta.{four_of}
use Rattle.parlog.specs.Tables.{binding_at, binding_by, binding_of, number_at, sort_at, vars_in}
use Rattle.parlog.specs.Unify.{bound, changed, chase, clash, follow, is_bound, joined, meet, Outcome, some_bound, unify_from, unify_one, value, value_of}
use Rattle.parlog.specs.declared.Change.{Change}
use Rattle.parlog.specs.declared.Met.{Met}
use Rattle.parlog.specs.declared.Met.TheVariants.{Bind, Clash, Same}
use Rattle.parlog.specs.declared.Pair.{Pair}
use Rattle.parlog.specs.declared.Term.{Term}
use Rattle.parlog.specs.declared.Term.TheVariants.{Const, Var}
use Rattle.std.specs.List.{list_any}
use Rattle.unify.specs.Pending.{bound_in, bound_vars, latest, newer_of, no_change, no_pair, noted_in, outcome, pending, top, under}
use Rattle.unify.specs.declared.waiting.Changes.{Changes}
use Rattle.unify.specs.declared.waiting.Noted.{Noted}
use Rattle.vars.proofs.Tables.{vars-at, vars-length, vars-past}

-- ---- what is left of a row, and of its first n

pub rest_on : {A : Type 0} (xs : List A) (k : ℕ) (d : A) → k < length xs → drop k xs ≡ get_or xs k d ∷ drop (k + 1) xs
rest_on xs k d h = drop-cons xs k d h ∙ rw add-one

pub rest_more : {A : Type 0} (xs : List A) (n k : ℕ) (d : A) → k < n → n ≤ length xs → drop k (take n xs) ≡ get_or xs k d ∷ drop (k + 1) (take n xs)
rest_more xs n k d h g =
    drop-cons (take n xs) k d (rw (length-take-le n xs g) h) ∙ rw (get_or-take n xs k d h, add-one)

pub rest-none : {A : Type 0} (xs : List A) (n k : ℕ) → n ≤ k → n ≤ length xs → drop k (take n xs) ≡ []
rest-none xs n k h g = drop_of_length-le (take n xs) {i = k} (rw (length-take-le n xs g) h)

-- ---- values

test : (t : Bool) (z : Term) {x y : Term} → (t ≡ false → x ≡ y) → cond t z x ≡ cond t z y
test true z h = refl
test false z h = h refl

follow-cong : (a : ℕ) (c : Option Term) (f g : ℕ → Term) → ((w : ℕ) → w < a → f w ≡ g w) → follow a c f ≡ follow a c g
unfolding follow
follow-cong a None f g h = refl
follow-cong a (Some (Const c)) f g h = refl
follow-cong a (Some (Var w)) f g h = test (leb a w) (Var a) (λ e. h w (leb-false a w e))

chase-fuel : (l : List (Option Term)) (n m a : ℕ) → a < n → a < m → chase l n a ≡ chase l m a
unfolding chase
chase-fuel l zero m a h k = absurd (omega arith)
chase-fuel l (suc n) zero a h k = absurd (omega arith)
chase-fuel l (suc n) (suc m) a h k = follow-cong a (binding_of l a) (λ w. chase l n w) (λ w. chase l m w) (λ w lt. chase-fuel l n m w (omega arith) (omega arith))

-- the equation by which value_of is used: no fuel in it
pub value-step : (vs : List (Option Term)) (a : ℕ) → value_of vs a ≡ follow a (binding_of vs a) (λ w. value_of vs w)
unfolding value_of chase
value-step l a = follow-cong a (binding_of l a) (λ w. chase l a w) (λ w. chase l (suc w) w) (λ w lt. chase-fuel l a (suc w) w lt (omega arith))

module _ (vs : List (Option Term)) (a : ℕ) {b : Option Term} (is : b ≡ binding_of vs a) where
  pub value-unbound : b ≡ None → value_of vs a ≡ Var a
  unfolding follow
  value-unbound e = value-step vs a ∙ rw (sym is ∙ e)

  module _ {t : Term} (e : b ≡ Some t) where
    pub value-const : {c : ℕ} → t ≡ Const c → value_of vs a ≡ t
    unfolding follow
    value-const f = value-step vs a ∙ rw (sym is ∙ e, f)

    pub value-stop : {w : ℕ} → t ≡ Var w → a ≤ w → value_of vs a ≡ Var a
    unfolding follow
    value-stop {w} f h = value-step vs a ∙ rw (sym is ∙ e, f, le-leb a w h)

    pub value_on : {w : ℕ} → t ≡ Var w → w < a → value_of vs a ≡ value_of vs w
    unfolding follow
    value_on {w} f h = value-step vs a ∙ rw (sym is ∙ e, f, lt-leb a w h)

-- ---- the binding under pending changes

latest-is : (vs : List (Option Term)) (cs : List Change) (v : ℕ) → v < length vs → latest cs (get_or vs v None) v ≡ get_or (changed vs cs) v None
unfolding latest changed
latest-is vs [] v h = refl
latest-is vs (c ∷ cs) v h =
    ap (λ (b : Option Term). latest cs b v) (one c (eqb c.var v) refl)
    ∙ latest-is (set vs c.var (Some c.to)) cs v (rw length-set h)
  where
    one : (c : Change) (t : Bool) → eqb c.var v ≡ t → newer_of c (get_or vs v None) v ≡ get_or (set vs c.var (Some c.to)) v None
    one c true e = unfold newer_of in (rw (e, ← eqb-true c.var v e, get_or-set_same vs c.var (Some c.to) None (rw (eqb-true c.var v e) h)))
    one c false e = unfold newer_of in (rw (e, get_or-set_other vs c.var v (Some c.to) None (λ q. eqb-false c.var v e (sym q))))

pub under_at : (l : List ℕ) (n : ℕ) (cs : List Change) (v : ℕ) → v < n → {row b : Option Term} → row ≡ binding_of (vars_in l n) v → b ≡ latest cs row v → b ≡ binding_of (under l n cs) v
unfolding under
under_at l n cs v h p q = q ∙ ap (λ (r : Option Term). latest cs r v) p ∙ latest-is (vars_in l n) cs v (rw vars-length h)

-- ---- the loop over pending changes

module _ (xs : List Change) (k : ℕ) where
  pub latest-more : k < length xs → (b c : Option Term) (v : ℕ) → c ≡ newer_of (get_or xs k no_change) b v → latest (drop (k + 1) xs) c v ≡ latest (drop k xs) b v
  unfolding latest
  latest-more h b c v e = rw (rest_on xs k no_change h, e)

  pub latest-done : length xs ≤ k → (b : Option Term) (v : ℕ) → b ≡ latest (drop k xs) b v
  unfolding latest
  latest-done h b v = rw (drop_of_length-le xs {i = k} h)

-- ---- one pair

-- what is bound last stands behind the others
pub with_last : {A : Type 0} (k : ℕ) (xs : List A) (x : A) → k < length xs → take (k + 1) (set xs k x) ≡ take k xs ++ (x ∷ [])
with_last k xs x h = rw (add-one, take-suc-set xs k x h)

pub joined-bind : (u : Changes) (v : ℕ) (t : Term) (w : Changes) → pending w ≡ pending u ++ (record { var = v; to = t } ∷ []) → outcome (Some w) ≡ joined (pending u) (Bind v t)
unfolding joined outcome
joined-bind u v t w e = ap bound e

pub joined-same : (u : Changes) → outcome (Some u) ≡ joined (pending u) Same
unfolding joined outcome
joined-same u = refl

pub joined-clash : (u : Changes) → outcome None ≡ joined (pending u) Clash
unfolding joined outcome
joined-clash u = refl

-- ---- the variables told

pub bound-is : (o : Option Changes) → bound_in o ≡ bound_vars (outcome o)
unfolding bound_in bound_vars outcome
bound-is None = refl
bound-is (Some u) = refl

pub bound-same : (o : Option Changes) {x : Outcome} → outcome o ≡ x → bound_in o ≡ bound_vars x
bound-same o e = bound-is o ∙ ap bound_vars e

-- ---- the pairs

module _ (vs : List (Option Term)) (es : List Pair) (k : ℕ) where
  pub unify-more : (o o' : Outcome) → k < length es → o' ≡ unify_one vs o (get_or es k no_pair) → unify_from vs o' (drop (k + 1) es) ≡ unify_from vs o (drop k es)
  unfolding unify_from
  unify-more o o' h e = rw (rest_on es k no_pair h, e)

  pub unify-clash : (o : Outcome) → k < length es → outcome None ≡ unify_one vs o (get_or es k no_pair) → outcome None ≡ unify_from vs o (drop k es)
  unfolding outcome
  unify-clash o h e = sym (from-clash vs (drop (k + 1) es)) ∙ unify-more o clash h e

  pub unify-done : (o : Outcome) → length es ≤ k → unify_from vs o (drop k es) ≡ o
  unfolding unify_from
  unify-done o h = rw (drop_of_length-le es {i = k} h)

-- ---- variables noted

-- one more in a row's four places, with zeros behind them
pub four-with : (k : ℕ) (xs : List ℕ) (v : ℕ) → length xs ≡ 4 → k < 4 → xs ≡ four_of (take k xs) → set xs k v ≡ four_of (take (k + 1) (set xs k v))
unfolding four_of
four-with k [] v l h e = absurd (omega arith)
four-with k (a ∷ []) v l h e = absurd (omega arith)
four-with k (a ∷ b ∷ []) v l h e = absurd (omega arith)
four-with k (a ∷ b ∷ c ∷ []) v l h e = absurd (omega arith)
four-with zero (a ∷ b ∷ c ∷ d ∷ []) v l h e = cc
four-with (suc zero) (a ∷ b ∷ c ∷ d ∷ []) v l h e = cc
four-with (suc (suc zero)) (a ∷ b ∷ c ∷ d ∷ []) v l h e = cc
four-with (suc (suc (suc zero))) (a ∷ b ∷ c ∷ d ∷ []) v l h e = refl
four-with (suc (suc (suc (suc k)))) (a ∷ b ∷ c ∷ d ∷ []) v l h e = absurd (omega arith)
four-with k (a ∷ b ∷ c ∷ d ∷ f ∷ xs) v l h e = absurd (omega arith)

-- as many as are counted
pub noted-many : (s : Noted) → length (noted_in s) ≡ s.count
unfolding noted_in
noted-many s = length-take-le s.count s.notes (let f : length s.notes ≡ 4 = ap length s.filled ∙ (unfold four_of in refl) in omega (arith, s.few, f))

pub few-made : (u : Changes) → length (pending u) ≤ 4
unfolding pending
few-made u = omega (arith, length-take u.count u.list, u.few)

-- ---- the ways through value_under and unify_one

pub value-known : (vs : List (Option Term)) {t : Term} {c : ℕ} → t ≡ Const c → t ≡ value vs t
unfolding value
value-known vs e = rw e

pub value-var : (vs : List (Option Term)) {t : Term} {v : ℕ} → t ≡ Var v → value_of vs v ≡ value vs t
unfolding value
value-var vs e = rw e

pub top-var : {t : Term} {v : ℕ} → t ≡ Var v → top t ≡ suc v
unfolding top
top-var e = rw e

pub unify-step : (l : List ℕ) (n : ℕ) (u : Changes) (p : Pair) {x y : Term} {m : Met} {o : Outcome}
    → x ≡ value (under l n (pending u)) p.left → y ≡ value (under l n (pending u)) p.right → m ≡ meet x y → o ≡ joined (pending u) m
    → o ≡ unify_one (vars_in l n) (bound (pending u)) p
unfolding unify_one under
unify-step l n u p ex ey em eo = rw (eo, em, ex, ey)

pub value-nothing : (l : List ℕ) (n : ℕ) (t : Term) {cs : List Change} {r : Term} → cs ≡ [] → r ≡ value (under l n cs) t → r ≡ value (vars_in l n) t
unfolding under changed
value-nothing l n t e q = q ∙ ap (λ (cs : List Change). value (changed (vars_in l n) cs) t) e

-- ---- the ways through some_bound

pub bound-sort : (l : List ℕ) (m v : ℕ) → v < m → not (eqb (get_or l (v * 4) 0) 0) ≡ is_bound (binding_of (vars_in l m) v)
unfolding binding_at binding_by
bound-sort l m v h = rw (vars-at l m v h) (go (eqb (sort_at l v) 0) (eqb (sort_at l v) 1))
  where
    go : (a b : Bool) → not a ≡ is_bound (cond a None (cond b (Some (Const (number_at l v))) (Some (Var (number_at l v)))))
    go true b = refl
    go false true = refl
    go false false = refl

pub bound-past : (l : List ℕ) (m v : ℕ) → m ≤ v → false ≡ is_bound (binding_of (vars_in l m) v)
bound-past l m v h = rw (vars-past l m v h)

pub some-is : (vs : List (Option Term)) (ns : List ℕ) → list_any (λ v. is_bound (binding_of vs v)) ns ≡ some_bound vs ns
unfolding some_bound
some-is vs [] = refl
some-is vs (v ∷ ns) = ap (λ (b : Bool). is_bound (binding_of vs v) || b) (some-is vs ns)
