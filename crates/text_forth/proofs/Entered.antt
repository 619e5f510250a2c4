-- Names written as entries are the entries.
use mathlib.Core.Path.{◌∙◌, ◌≡◌, ap, refl, sym}
use mathlib.Core.Bool.{true}
use mathlib.Core.List.{[], ◌++◌, ◌∷◌, List}
use Prim.Native.Nat.{◌<◌, ◌≤◌, suc, zero, ℕ}
use lib.ListN.{drop, get_or, length, take}
use lib.Seq.{take-length, take-suc}
use borrow.Author.Tests.{ne_eqb}
use native.Mathlib.Omega.{arith}
use Rattle.std.proofs.lemmas.Bool.{and_parts}
use Rattle.parlog.proofs.Bools.{never}
use Rattle.parlog.specs.Orders.{Each}
use Rattle.text_back.proofs.Begin.{all_name, back-of, end-no-name, first_of, front_of, Lower, lower-spelt}
use Rattle.text_back.specs.Back.{firsts}
use Rattle.text_names.specs.Bytes.{front, is_name}
use Rattle.text_names.specs.Entries.{behind_entry, entries, entry_from, entry_name, is_entry}
use Rattle.text_names.specs.Names.{Name}

-- ---- lists

pub each_at : {A : Type 0} (P : A → Type 0) (d : A) (xs : List A) (k : ℕ) → Each P xs → k < length xs → P (get_or xs k d)
each_at P d [] k e h = absurd (omega arith)
each_at P d (x ∷ xs) zero e h = e.0
each_at P d (x ∷ xs) (suc k) e h = each_at P d xs k e.1 (omega arith)

pub firsts-of : (f : ℕ → Name) (xs : List Name) (k : ℕ) → k ≤ length xs → ((i : ℕ) → i < k → f i ≡ get_or xs i []) → firsts f k ≡ take k xs
unfolding firsts
firsts-of f xs zero h e = refl
firsts-of f xs (suc k) h e = rw (firsts-of f xs k (omega arith) (λ i l. e i (omega arith)), e k (omega arith)) (sym (take-suc xs k [] h))

pub firsts-all : (f : ℕ → Name) (xs : List Name) → ((i : ℕ) → i < length xs → f i ≡ get_or xs i []) → firsts f (length xs) ≡ xs
firsts-all f xs e = firsts-of f xs (length xs) (omega arith) e ∙ take-length xs

-- ---- an entry

behind-name : (x s : List ℕ) → all_name x ≡ true → behind_entry (x ++ (10 ∷ s)) ≡ s
unfolding behind_entry all_name
behind-name [] s e = refl
behind-name (b ∷ x) s e =
    let w = and_parts (is_name b) (all_name x) e in
    rw (ne_eqb b 10 (λ z. never (sym end-no-name ∙ ap is_name (sym z) ∙ w.0))) (behind-name x s w.1)

entry-from : (xs : List Name) (k : ℕ) → Each Lower xs → k < length xs → entry_from (entries xs) k ≡ get_or xs k [] ++ (10 ∷ entries (drop (suc k) xs))
unfolding entries entry_from
entry-from [] k e h = absurd (omega arith)
entry-from (x ∷ xs) zero e h = refl
entry-from (x ∷ xs) (suc k) e h = rw (behind-name x (entries xs) e.0.all) (entry-from xs k e.1 (omega arith))

module _ (xs : List Name) (lowers : Each Lower xs) (k : ℕ) (h : k < length xs) where
  abbrev x : Name
  x = get_or xs k []

  abbrev rest : List ℕ
  rest = 10 ∷ entries (drop (suc k) xs)

  lower : Lower x
  lower = each_at Lower [] xs k lowers h

  -- THE LAW: entry k is name k
  pub entry-name : entry_name (entries xs) k ≡ x
  entry-name = ap front (entry-from xs k lowers h) ∙ front_of x rest lower.all end-no-name

  pub entry-is : is_entry (entries xs) k ≡ true
  unfolding is_entry
  entry-is =
      let p = lower-spelt x lower in
      rw (entry-from xs k lowers h, first_of x rest p, lower.small, back-of x rest lower.all end-no-name)
