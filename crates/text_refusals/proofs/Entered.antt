-- The test of an entry finds a lower-case name exactly where there is one.
use mathlib.Core.Path.{◌∙◌, ◌≡◌, ap, refl, sym}
use mathlib.Core.Logic.{◌⊎◌, inl, inr}
use mathlib.Core.Bool.{Bool, false, true}
use mathlib.Core.List.{[], ◌++◌, ◌∷◌, List}
use Prim.Native.Nat.{◌<◌, suc, zero, ℕ}
use lib.Dec.{eqb}
use lib.ListN.{drop}
use borrow.Author.Tests.{eqb-false, eqb-true, ne_eqb}
use native.Mathlib.Omega.{arith}
use Rattle.parlog.proofs.Bools.{and-true, never, true-and}
use Rattle.parlog.specs.Orders.{Each}
use Rattle.refusals.proofs.Tests.{Decides}
use Rattle.text_back.proofs.Begin.{all_name, back-of, end-no-name, first_of, front-lower, Lower, lower-spelt}
use Rattle.text_names.proofs.Rest.{empty-entry, front-back}
use Rattle.text_names.specs.Bytes.{back, first, front, is_name, is_small}
use Rattle.text_names.specs.Entries.{behind_entry, entry_from, is_entry}
use Rattle.text_names.specs.Names.{Name}
use Rattle.text_refusals.specs.Unwritten.{Endless, Entry, first_entry, HasName, later_entry}

behind-end : (y s : List ℕ) → Endless y → behind_entry (y ++ (10 ∷ s)) ≡ s
unfolding behind_entry
behind-end [] s e = refl
behind-end (b ∷ y) s e = rw (ne_eqb b 10 e.0) (behind-end y s e.1)

record At (nm : List ℕ) (k : ℕ) (x : Name) : Type 0 where
  pub rest : List ℕ
  pub is : entry_from nm k ≡ x ++ (10 ∷ rest)

entry_at : {nm : List ℕ} {k : ℕ} {x : Name} → Entry nm k x → At nm k x
unfolding entry_from
entry_at (first_entry s z e) = record { rest = s; is = z }
entry_at (later_entry {k = k} y s z e n) = let w = entry_at n in record { rest = w.rest; is = ap (λ (t : List ℕ). entry_from t k) (ap behind_entry z ∙ behind-end y s e) ∙ w.is }

all-names : (x : Name) → Each (λ (b : ℕ). is_name b ≡ true) x → all_name x ≡ true
unfolding all_name
all-names [] e = refl
all-names (b ∷ x) e = true-and (is_name b) (all_name x) e.0 (all-names x e.1)

names-all : (x : Name) → all_name x ≡ true → Each (λ (b : ℕ). is_name b ≡ true) x
unfolding all_name
names-all [] e = tt
names-all (b ∷ x) e = let w = and-true (is_name b) (all_name x) e in (w.0, names-all x w.1)

names-endless : (x : Name) → all_name x ≡ true → Endless x
unfolding all_name
names-endless [] e = tt
names-endless (b ∷ x) e = let w = and-true (is_name b) (all_name x) e in (λ z. never (sym end-no-name ∙ ap is_name (sym z) ∙ w.0), names-endless x w.1)

has-entry : (nm : List ℕ) (k : ℕ) → HasName nm k → is_entry nm k ≡ true
unfolding is_entry
has-entry nm k h =
    let x = h.name in
    let w = entry_at h.entry in
    let l : Lower x = record { all = all-names x h.lower_case.bytes; small = h.lower_case.letter } in
    rw (w.is, first_of x (10 ∷ w.rest) (lower-spelt x l), l.small, back-of x (10 ∷ w.rest) l.all end-no-name)

-- ---- the other way

begins-with : (s : List ℕ) (m : ℕ) → first s ≡ m → 0 < m → s ≡ m ∷ drop 1 s
begins-with [] m e h = absurd (omega arith)
begins-with (b ∷ s) m e h = ap (λ (x : ℕ). x ∷ s) e

here-named : (nm : List ℕ) → is_small (first nm) ≡ true → first (back nm) ≡ 10 → HasName nm 0
here-named nm e f =
    let l = front-lower nm e in
    let z : front nm ++ (10 ∷ drop 1 (back nm)) ≡ nm = ap (λ (t : List ℕ). front nm ++ t) (sym (begins-with (back nm) 10 f (omega arith))) ∙ front-back nm in
    record { name = front nm; entry = first_entry (drop 1 (back nm)) (sym z) (names-endless (front nm) l.all); lower_case = record { letter = l.small; bytes = names-all (front nm) l.all } }

-- the first byte 10, if there is one
record Ended (nm : List ℕ) : Type 0 where
  pub before : List ℕ
  pub free : Endless before
  pub is : nm ≡ before ++ (10 ∷ behind_entry nm)

find-end : (nm : List ℕ) → (behind_entry nm ≡ []) ⊎ Ended nm
unfolding behind_entry
find-end [] = inl refl
find-end (b ∷ s) = go (eqb b 10) refl (find-end s)
  where
    go : (h : Bool) → eqb b 10 ≡ h → (behind_entry s ≡ []) ⊎ Ended s → (behind_entry (b ∷ s) ≡ []) ⊎ Ended (b ∷ s)
    go true e w = inr (record { before = []; free = tt; is = unfold behind_entry in rw e (ap (λ (x : ℕ). x ∷ s) (eqb-true b 10 e)) })
    go false e (inl w) = inl (unfold behind_entry in rw e w)
    go false e (inr w) = inr (record { before = b ∷ w.before; free = (eqb-false b 10 e, w.free); is = unfold behind_entry in rw e (ap (λ (t : List ℕ). b ∷ t) w.is) })

no-entry : (k : ℕ) → is_entry [] k ≡ false
unfolding is_entry is_small
no-entry k = rw (empty-entry k)

next-entry : (nm : List ℕ) (k : ℕ) → is_entry nm (suc k) ≡ is_entry (behind_entry nm) k
unfolding is_entry entry_from
next-entry nm k = refl

pub entry_has : (nm : List ℕ) (k : ℕ) → is_entry nm k ≡ true → HasName nm k
entry_has nm zero e = here nm e
  where
    here : (nm : List ℕ) → is_entry nm 0 ≡ true → HasName nm 0
    here nm e = unfold is_entry in unfold entry_from in let w = and-true (is_small (first nm)) (eqb (first (back nm)) 10) e in here-named nm w.0 (eqb-true (first (back nm)) 10 w.1)
entry_has nm (suc k) e = go (find-end nm) (sym (next-entry nm k) ∙ e) (entry_has (behind_entry nm) k (sym (next-entry nm k) ∙ e))
  where
    go : (behind_entry nm ≡ []) ⊎ Ended nm → is_entry (behind_entry nm) k ≡ true → HasName (behind_entry nm) k → HasName nm (suc k)
    go (inl z) f h = never (sym (no-entry k) ∙ (rw z at f))
    go (inr w) f h = record { name = h.name; entry = later_entry w.before (behind_entry nm) w.is w.free h.entry; lower_case = h.lower_case }

-- THE LAW: exactly
pub entry-so : (nm : List ℕ) (k : ℕ) → Decides (is_entry nm k) (HasName nm k)
entry-so nm k = (entry_has nm k, has-entry nm k)
