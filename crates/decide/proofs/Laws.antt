-- The laws of decisions: one for each way through the code.
use Rattle.std.specs.Prelude.{None, Option, Some}
use mathlib.Core.Path.{◌≡◌, refl, sym}
use mathlib.Core.Bool.{◌&&◌, Bool, false, true}
use mathlib.Core.List.{[], ◌++◌, ◌∷◌, append_assoc, append-nil, List}
use Prim.Native.Nat.{◌+◌, ◌<◌, ◌≤◌, suc, ℕ}
use lib.ListN.{drop, drop_of_length-le, get_or, length, take}
use lib.Seq.{get_or-take, length-take-le}
use native.Mathlib.Omega.{arith}
use Rattle.decide.specs.Decision.{decided_of, Decides, suspended_by}
use Rattle.decide.specs.declared.Decision.TheVariants.{Binds, Fails, Suspends}
use Rattle.parlog.specs.Image.{is_input}
use Rattle.parlog.specs.Unify.{bound, clash, decide, held_in, input_value, is_var, Outcome, settle, settled, shift, unify, value}
use Rattle.parlog.specs.declared.Change.{Change}
use Rattle.parlog.specs.declared.Pair.{Pair}
use Rattle.parlog.specs.declared.Term.{Term}
use Rattle.parlog.specs.declared.Term.TheVariants.{Const}
use Rattle.unify.proofs.Bounds.{lowers_at, unify-lowers}
use Rattle.unify.proofs.Laws.{noted-many, rest_more, rest-none, rest_on}
use Rattle.unify.specs.Pending.{AllLower, Below, no_change, no_pair, noted_in, outcome, OutcomeLowers, pending}
use Rattle.unify.specs.declared.waiting.Changes.{Changes}
use Rattle.unify.specs.declared.waiting.Noted.{Noted}

-- ---- input arguments

module _ (vs : List (Option Term)) (ms : List ℕ) (xs : List Term) (base n k v : ℕ) (gm : n ≤ length ms) (gx : n ≤ length xs) where
  module _ (h : k < n) {t x : Term} {yes hit : Bool} (et : t ≡ shift base (get_or xs k (Const 0))) (ex : x ≡ value vs t) (ey : yes ≡ is_var v x) (eh : hit ≡ (is_input (get_or ms k 0) && yes)) where
    pub input-hit : hit ≡ true → true ≡ input_value vs (drop k (take n ms)) (drop k (take n xs)) base v
    unfolding input_value
    input-hit e = rw (rest_more ms n k 0 h gm, rest_more xs n k (Const 0) h gx, ← et, ← ex, ← ey, ← eh, e)

    pub input-miss : hit ≡ false → input_value vs (drop (k + 1) (take n ms)) (drop (k + 1) (take n xs)) base v ≡ input_value vs (drop k (take n ms)) (drop k (take n xs)) base v
    unfolding input_value
    input-miss e = rw (rest_more ms n k 0 h gm, rest_more xs n k (Const 0) h gx, ← et, ← ex, ← ey, ← eh, e)

  pub input-done : n ≤ k → false ≡ input_value vs (drop k (take n ms)) (drop k (take n xs)) base v
  unfolding input_value
  input-done h = rw (rest-none ms n k h gm)

-- ---- the variables noted

module _ (held : ℕ → Bool) (xs : List Change) (k : ℕ) where
  module _ (h : k < length xs) (ns : List ℕ) where
    pub held-yes : held (get_or xs k no_change).var ≡ true → {ms : List ℕ} → ms ≡ ns ++ ((get_or xs k no_change).var ∷ []) → ms ++ held_in held (drop (k + 1) xs) ≡ ns ++ held_in held (drop k xs)
    unfolding held_in
    held-yes e em = rw (rest_on xs k no_change h, e, em) (append_assoc ns ((get_or xs k no_change).var ∷ []) (held_in held (drop (k + 1) xs)))

    pub held-no : held (get_or xs k no_change).var ≡ false → ns ++ held_in held (drop (k + 1) xs) ≡ ns ++ held_in held (drop k xs)
    unfolding held_in
    held-no e = rw (rest_on xs k no_change h, e)

  pub held-done : length xs ≤ k → (ns : List ℕ) → ns ++ held_in held (drop k xs) ≡ ns
  unfolding held_in
  held-done h ns = rw (drop_of_length-le xs {i = k} h) (append-nil ns)

-- ---- the ways through decide

above : {s r : Noted} {n : ℕ} → Suspends s ≡ Suspends r → s.count ≡ suc n → 0 < r.count
above {s} {r} {n} q c = let e : r.count ≡ suc n = cc in omega arith

module _ (vs : List (Option Term)) (es : List Pair) (held : ℕ → Bool) where
  pub way-fails : outcome None ≡ unify vs es → Decides (decide vs es held) Fails
  unfolding decide settle outcome decided_of
  way-fails e = rw (← e) (record { told = refl; some = λ z. cc })

  module _ (u : Changes) (is : outcome (Some u) ≡ unify vs es) (s : Noted) (so : noted_in s ≡ held_in held (pending u)) where
    settled-so : decide vs es held ≡ settled (noted_in s) (pending u)
    unfolding decide settle outcome
    settled-so = rw (← is, ← so)

    pub way-binds : s.count ≡ 0 → Decides (decide vs es held) (Binds u)
    way-binds z = rw settled-so (go (noted_in s) (noted-many s))
      where
        go : (ns : List ℕ) → length ns ≡ s.count → Decides (settled ns (pending u)) (Binds u)
        go [] l = unfold settled decided_of in (record { told = refl; some = λ q. cc })
        go (v ∷ ns) l = absurd (omega arith)

    pub way-suspends : (s.count ≡ 0 → ⊥) → Decides (decide vs es held) (Suspends s)
    way-suspends ne = rw settled-so (go (noted_in s) (noted-many s) refl)
      where
        go : (ns : List ℕ) → length ns ≡ s.count → noted_in s ≡ ns → Decides (settled ns (pending u)) (Suspends s)
        go [] l e = absurd (ne (sym l))
        go (v ∷ ns) l e = unfold settled decided_of suspended_by in (record { told = rw e; some = λ q. above q (sym l) })

-- the variables bound are among the first
pub made-there : (m n : ℕ) (vs : List (Option Term)) (es : List Pair) (u : Changes) → outcome (Some u) ≡ unify vs (take n es)
    → n ≤ length es → Below m n es → (k : ℕ) → k < length (pending u) → (get_or (pending u) k no_change).var < m
made-there m n vs es u is le vars k h =
    (lowers_at m (pending u) all k h).0
  where
    fine : OutcomeLowers m (outcome (Some u))
    fine = rw is (unify-lowers m vs (take n es) (λ k lt. let q : k < n = rw (length-take-le n es le) at lt in rw (get_or-take n es k no_pair q) (vars k q)))

    all : AllLower m (pending u)
    all = unfold outcome in fine

-- ---- a decision depends on the values of its test alone

held-cong : (f g : ℕ → Bool) → ((v : ℕ) → f v ≡ g v) → (cs : List Change) → held_in f cs ≡ held_in g cs
unfolding held_in
held-cong f g h [] = refl
held-cong f g h (c ∷ cs) = rw (h c.var, held-cong f g h cs)

pub decide-cong : (vs : List (Option Term)) (es : List Pair) (f g : ℕ → Bool) → ((v : ℕ) → f v ≡ g v) → decide vs es f ≡ decide vs es g
unfolding decide
decide-cong vs es f g h = go (unify vs es)
  where
    go : (o : Outcome) → settle f o ≡ settle g o
    go clash = unfold settle in refl
    go (bound cs) = unfold settle in (rw (held-cong f g h cs))
