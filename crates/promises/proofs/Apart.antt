-- What unifying binds was unbound before, each variable once; so the variables of its changes are exactly those newly bound.
use Rattle.std.specs.Prelude.{Option, None, Some}
use mathlib.Core.Path.{◌∙◌, ◌≡◌, refl, sym}
use mathlib.Core.Logic.{◌≢◌}
use mathlib.Core.List.{[], ◌++◌, ◌∷◌, List}
use Prim.Native.Nat.{◌<◌, suc, zero, ℕ}
use lib.Dec.{eqb}
use lib.ListN.{get_or, length, length-map, get_or-map}
use borrow.Author.Tests.{eqb-false, eqb-true}
use native.Mathlib.Omega.{arith}
use native.Mathlib.Nat.{le_of_suc-le-suc, not-suc-le-zero}
use Rattle.parlog.proofs.Bools.{split}
use Rattle.parlog.proofs.Changing.{changed-is, changed-only}
use Rattle.parlog.specs.Listed.{Among, at_head, further}
use Rattle.parlog.specs.Notions.{all_done, Changed, higher_left, higher_right, Leads, Meets, one_done, onward, same_constant, same_variable, to_left, to_right, unbound, Unifies}
use Rattle.parlog.specs.Tables.{binding_of}
use Rattle.parlog.specs.Unify.{changed}
use Rattle.parlog.specs.declared.Change.{Change}
use Rattle.parlog.specs.declared.Pair.{Pair}
use Rattle.parlog.specs.declared.Term.{Term}
use Rattle.parlog.specs.declared.Term.TheVariants.{Var}
use Rattle.promises.specs.Bound.{NewlyBound}
use Rattle.unify.specs.Pending.{no_change, vars_bound}

-- the variables of changes are below n
abbrev pub Under : ℕ → List Change → Type 0
Under n [] = Unit {0}
Under n (c ∷ cs) = (c.var < n) × Under n cs

-- each is unbound, and none comes again
abbrev pub Apart : List (Option Term) → List Change → Type 0
Apart vs [] = Unit {0}
Apart vs (c ∷ cs) = (binding_of vs c.var ≡ None) × ((i : ℕ) → i < length cs → (get_or cs i no_change).var ≢ c.var) × Apart vs cs

-- ---- one pair

leads-free : {vs : List (Option Term)} {t : Term} {v : ℕ} → Leads vs t (Var v) → binding_of vs v ≡ None
leads-free (unbound e) = e
leads-free (onward e l) = leads-free l

-- what two values bind: nothing, or one variable that was unbound
data MetOne (vs : List (Option Term)) : List Change → Type 0 where
  met-none : MetOne vs []
  met-one : {c : Change} → binding_of vs c.var ≡ None → MetOne vs (c ∷ [])

met : {vs : List (Option Term)} {x y a b : Term} {bs : List Change} → Leads vs x a → Leads vs y b → Meets a b bs → MetOne vs bs
met l r same_constant = met-none
met l r same_variable = met-none
met l r to_left = met-one (leads-free r)
met l r to_right = met-one (leads-free l)
met l r (higher_left h) = met-one (leads-free l)
met l r (higher_right h) = met-one (leads-free r)

free_bound : {b : Option Term} {t : Term} → b ≡ Some t → b ≡ None → ⊥
free_bound p q = let z : ◌≡◌ {A = ℕ} 0 1 = cc in omega arith

module _ {vs ws : List (Option Term)} {c : Change} (a : Changed vs (c ∷ []) ws) (h : c.var < length vs) where
  now-bound : binding_of ws c.var ≡ Some c.to
  now-bound = a.bound c.var 0 h (omega arith) refl (λ k x y. absurd (omega arith))

  other-var : (v : ℕ) → binding_of ws v ≡ None → v ≢ c.var
  other-var v e q = free_bound now-bound (rw q at e)

  as_before : (v : ℕ) → v ≢ c.var → binding_of ws v ≡ binding_of vs v
  as_before v n = a.kept v (λ i l. differs i l n)
    where
      differs : (i : ℕ) → i < 1 → v ≢ c.var → (get_or (c ∷ []) i no_change).var ≢ v
      differs zero l n e = n (sym e)
      differs (suc i) l n e = absurd (omega arith)

  apart-later : (cs : List Change) → Apart ws cs → ((i : ℕ) → i < length cs → (get_or cs i no_change).var ≢ c.var) × Apart vs cs
  apart-later [] x = (λ i l. absurd (not-suc-le-zero l), tt)
  apart-later (d ∷ cs) x =
      let n = other-var d.var x.0 in
      let r = apart-later cs x.2 in
      (among n r.0, (sym (as_before d.var n) ∙ x.0, x.1, r.1))
    where
      among : d.var ≢ c.var → ((i : ℕ) → i < length cs → (get_or cs i no_change).var ≢ c.var) → (i : ℕ) → i < length (d ∷ cs) → (get_or (d ∷ cs) i no_change).var ≢ c.var
      among n r zero l = n
      among n r (suc i) l = r i (le_of_suc-le-suc l)

-- ---- all pairs

then-apart : {vs ws : List (Option Term)} {bs : List Change} (cs : List Change) → MetOne vs bs → Changed vs bs ws → (Under (length ws) cs → Apart ws cs) → Under (length vs) (bs ++ cs) → Apart vs (bs ++ cs)
then-apart {vs} {ws} cs met-none a go u = let e : ws ≡ vs = unfold changed in changed-only a in rw e at (go (rw a.count u))
then-apart cs (met-one f) a go u = let r = apart-later a u.0 cs (go (rw a.count u.1)) in (f, r.0, r.1)

pub apart : {vs : List (Option Term)} {es : List Pair} {cs : List Change} → Unifies vs es cs → Under (length vs) cs → Apart vs cs
apart all_done u = tt
apart (one_done {cs = cs} l r m a rest) u = then-apart cs (met l r m) a (λ h. apart rest h) u

-- ---- the variables newly bound

under_at : (n : ℕ) (cs : List Change) → Under n cs → (i : ℕ) → i < length cs → (get_or cs i no_change).var < n
under_at n [] u i h = absurd (not-suc-le-zero h)
under_at n (c ∷ cs) u zero h = u.0
under_at n (c ∷ cs) u (suc i) h = under_at n cs u.1 i (le_of_suc-le-suc h)

apart-free : (vs : List (Option Term)) (cs : List Change) → Apart vs cs → (i : ℕ) → i < length cs → binding_of vs (get_or cs i no_change).var ≡ None
apart-free vs [] x i h = absurd (not-suc-le-zero h)
apart-free vs (c ∷ cs) x zero h = x.0
apart-free vs (c ∷ cs) x (suc i) h = apart-free vs cs x.2 i (le_of_suc-le-suc h)

apart-once : (vs : List (Option Term)) (cs : List Change) → Apart vs cs → (i j : ℕ) → i < j → j < length cs → (get_or cs j no_change).var ≢ (get_or cs i no_change).var
apart-once vs [] x i j l h = absurd (not-suc-le-zero h)
apart-once vs (c ∷ cs) x i zero l h = absurd (not-suc-le-zero l)
apart-once vs (c ∷ cs) x zero (suc j) l h = x.1 j (le_of_suc-le-suc h)
apart-once vs (c ∷ cs) x (suc i) (suc j) l h = apart-once vs cs x.2 i j (le_of_suc-le-suc l) (le_of_suc-le-suc h)

-- v is changed, or it is not
data Sought (cs : List Change) (v : ℕ) : Type 0 where
  is-there : Among v (vars_bound cs) → Sought cs v
  is-not : ((i : ℕ) → i < length cs → (get_or cs i no_change).var ≢ v) → Sought cs v

sought : (cs : List Change) (v : ℕ) → Sought cs v
sought [] v = is-not (λ i h. absurd (not-suc-le-zero h))
sought (c ∷ cs) v = split (eqb c.var v) (λ e. is-there (rw (eqb-true c.var v e) at_head)) (λ e. later (eqb-false c.var v e) (sought cs v))
  where
    later : c.var ≢ v → Sought cs v → Sought (c ∷ cs) v
    later n (is-there a) = is-there (further a)
    later n (is-not f) = is-not (among n f)
      where
        among : c.var ≢ v → ((i : ℕ) → i < length cs → (get_or cs i no_change).var ≢ v) → (i : ℕ) → i < length (c ∷ cs) → (get_or (c ∷ cs) i no_change).var ≢ v
        among n f zero h = n
        among n f (suc i) h = f i (le_of_suc-le-suc h)

module _ (vs : List (Option Term)) (cs : List Change) (u : Under (length vs) cs) (x : Apart vs cs) where
  at-var : (i : ℕ) → get_or (vars_bound cs) i 0 ≡ (get_or cs i no_change).var
  at-var i = get_or-map (λ c. c.var) cs i no_change

  many : length (vars_bound cs) ≡ length cs
  many = length-map cs (λ c. c.var)

  becomes-bound : (i : ℕ) → i < length cs → binding_of (changed vs cs) (get_or cs i no_change).var ≡ Some (get_or cs i no_change).to
  becomes-bound i h = (changed-is vs cs).bound (get_or cs i no_change).var i (under_at (length vs) cs u i h) h refl (λ k l g. apart-once vs cs x i k l g)

  pub newly-bound : NewlyBound vs (changed vs cs) (vars_bound cs)
  newly-bound = record {
    free = λ i h. rw (at-var i) (apart-free vs cs x i (rw many at h));
    bound = λ i h. rw (at-var i) (free_bound (becomes-bound i (rw many at h)));
    all = λ v f b. found v f b (sought cs v);
    once = λ i j l h e. apart-once vs cs x i j l (rw many at h) (sym (at-var j) ∙ sym e ∙ at-var i);
  }
    where
      found : (v : ℕ) → binding_of vs v ≡ None → binding_of (changed vs cs) v ≢ None → Sought cs v → Among v (vars_bound cs)
      found v f b (is-there a) = a
      found v f b (is-not n) = absurd (b ((changed-is vs cs).kept v n ∙ f))
