-- The bytes of the variables told, and the ways through their writing.
use mathlib.Core.Path.{◌∙◌, ◌≡◌, refl, sym}
use mathlib.Core.List.{[], ◌++◌, ◌∷◌, List}
use Prim.Native.Nat.{◌*◌, ◌+◌, ◌<◌, ◌≤◌, ℕ}
use lib.ListN.{drop, drop_of_length-le, get_or, length, length-map, take}
use lib.Seq.{drop-cons, length-take-le}
use native.Mathlib.Numerals.{add-one}
use native.Mathlib.Omega.{arith}
use Rattle.bound_row.specs.Row.{bound_bytes, twos}
use Rattle.lay.proofs.Laws.{laid_none, laid_then, lays-then}
use Rattle.lay.specs.Lay.{laid, Lays, two}
use Rattle.parlog.specs.declared.Change.{Change}
use Rattle.unify.specs.Pending.{pending, vars_bound}
use Rattle.unify.specs.declared.waiting.Changes.{Changes}

-- ---- how many bytes

twos-length : (vs : List ℕ) → length (twos vs) ≡ 2 * length vs
unfolding twos
twos-length [] = refl
twos-length (v ∷ vs) = let e = twos-length vs in omega arith

pub bytes-length : (vs : List ℕ) → length (bound_bytes vs) ≡ 2 + 2 * length vs
unfolding bound_bytes
bytes-length vs = let e = twos-length vs in omega arith

pub vars-many : (cs : List Change) → length (vars_bound cs) ≡ length cs
vars-many cs = length-map cs (λ c. c.var)

module _ (changes : Changes) (four : length changes.list ≡ 4) where
  many : length (vars_bound (pending changes)) ≡ changes.count
  unfolding pending
  many = vars-many (take changes.count changes.list) ∙ length-take-le changes.count changes.list (omega (arith, changes.few))

  pub size_is : 2 + 2 * changes.count ≡ length (bound_bytes (vars_bound (pending changes)))
  size_is = sym (bytes-length (vars_bound (pending changes)) ∙ rw many)

  -- ---- writing them

  pub tell-start : (o : List ℕ) {out : List ℕ} {at : ℕ} → Lays o out 0 (two changes.count) at → laid out at (twos (vars_bound (pending changes))) ≡ laid o 0 (bound_bytes (vars_bound (pending changes)))
  unfolding bound_bytes
  tell-start o {out} {at} w = rw (many, w.row, w.place) (laid_then (two changes.count) (twos (vars_bound (pending changes))) o 0)

-- what is left to tell of a list, from its k-th change on
module _ (cs : List Change) (k : ℕ) (out : List ℕ) (at : ℕ) {whole : List ℕ} (inv : laid out at (twos (vars_bound (drop k cs))) ≡ whole) where
  pub tell-more : (d : Change) → k < length cs → {next : List ℕ} {to : ℕ} → Lays out next at (two (get_or cs k d).var) to → laid next to (twos (vars_bound (drop (k + 1) cs))) ≡ whole
  tell-more d h {next} {to} w = rw (w.row, w.place) (laid_then (two (get_or cs k d).var) (twos (vars_bound (drop (k + 1) cs))) out at ∙ sym joins ∙ inv)
    where
      joins : laid out at (twos (vars_bound (drop k cs))) ≡ laid out at (two (get_or cs k d).var ++ twos (vars_bound (drop (k + 1) cs)))
      joins = unfold twos in rw (drop-cons cs k d h, add-one)

  pub tell-done : length cs ≤ k → out ≡ whole
  unfolding twos
  tell-done h = sym (laid_none out at) ∙ (rw (drop_of_length-le cs {i = k} h) at inv)

pub tell-only : (o : List ℕ) (v : ℕ) {p q : List ℕ} {at to : ℕ} → Lays o p 0 (two 1) at → Lays p q at (two v) to → q ≡ laid o 0 (bound_bytes (v ∷ []))
unfolding bound_bytes twos
tell-only o v f g = (lays-then f g).row
