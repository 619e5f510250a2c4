-- Places of entries, one behind the other.
use mathlib.Core.Path.{ap, refl, sym, ◌∙◌, ◌≡◌}
use mathlib.Core.Bool.{Bool, false, true, ◌&&◌}
use mathlib.Core.List.{List}
use Prim.Native.Nat.{suc, zero, ℕ, ◌*◌, ◌+◌, ◌-◌, ◌<◌, ◌≤◌}
use lib.Dec.{eqb}
use lib.ListN.{drop, drop_of_length-le, get_or, length, length-set, set}
use lib.Seq.{drop-cons, get_or-set_other, get_or-set_same}
use borrow.Author.Tests.{eq-eqb, eqb-false, eqb-true, ne_eqb}
use native.Mathlib.Omega.{arith}
use native.Mathlib.Nat.{mul_assoc, mul_left_comm, suc-mul}
use native.Mathlib.Numerals.{add-one}
use Rattle.entry_table.specs.Entered.{Entered, table_size}
use Rattle.text_names.proofs.Rest.{empty-entry, first-at}
use Rattle.text_names.specs.Bytes.{back, is_small}
use Rattle.text_names.specs.Entries.{behind_entry, entry_from, is_entry}
use mir.Val.{bool_byte}

-- ---- walks

module _ (s : List ℕ) (i : ℕ) where
  pub entry-stop : i < length s → get_or s i 0 ≡ 10 → drop (i + 1) s ≡ behind_entry (drop i s)
  unfolding behind_entry
  entry-stop h e = rw (add-one, drop-cons s i 0, eq-eqb _ _ e)

  pub entry-go : i < length s → (get_or s i 0 ≡ 10 → ⊥) → behind_entry (drop i s) ≡ behind_entry (drop (i + 1) s)
  unfolding behind_entry
  entry-go h e = rw (add-one, drop-cons s i 0, ne_eqb _ _ e)

  pub entry-none : length s ≤ i → drop i s ≡ behind_entry (drop i s)
  unfolding behind_entry
  entry-none h = rw (drop_of_length-le s h)

-- one entry of those that are left
pub entry_next : (s : List ℕ) (left : ℕ) → (left ≡ 0 → ⊥) → entry_from s left ≡ entry_from (behind_entry s) (left - 1)
unfolding entry_from
entry_next s zero h = absurd (h refl)
entry_next s (suc k) h = let e : suc k - 1 ≡ k = omega arith in rw e

pub entry-last : (s : List ℕ) (left : ℕ) → left ≡ 0 → entry_from s left ≡ s
unfolding entry_from
entry-last s left h = rw h

pub walked-out : (s : List ℕ) (at left : ℕ) → length s ≤ at → drop at s ≡ entry_from (drop at s) left
walked-out s at left h = rw (drop_of_length-le s h) (sym (empty-entry left))

pub entries-on : (s : List ℕ) (a b : ℕ) → entry_from (entry_from s a) b ≡ entry_from s (a + b)
unfolding entry_from
entries-on s zero b = let e : 0 + b ≡ b = omega arith in rw e
entries-on s (suc a) b = let e : suc a + b ≡ suc (a + b) = omega arith in rw e (entries-on (behind_entry s) a b)

-- ---- each other place

-- the first k places are those of each other one, and the rest is as it was
pub record Thinned (before after : List ℕ) (k : ℕ) : Type 0 where
  pub done : (j : ℕ) → j < k → get_or after j 0 ≡ get_or before (2 * j) 0
  pub kept : (j : ℕ) → k ≤ j → get_or after j 0 ≡ get_or before j 0
  pub same : length after ≡ length before

pub thin-start : (t : List ℕ) → Thinned t t 0
thin-start t = record { done = λ j h. absurd (omega arith); kept = λ j h. refl; same = refl }

pub thin-turn : (o t : List ℕ) (k v : ℕ) → k < length t → v ≡ get_or t (2 * k) 0 → Thinned o t k → Thinned o (set t k v) (k + 1)
thin-turn o t k v h e i = record { done = done_at; kept = λ j g. get_or-set_other t k j v 0 (λ f. absurd (omega (arith, f))) ∙ i.kept j (omega arith); same = length-set t k v ∙ i.same }
  where
    done_at : (j : ℕ) → j < k + 1 → get_or (set t k v) j 0 ≡ get_or o (2 * j) 0
    done_at j g = go (eqb j k) refl
      where
        go : (b : Bool) → eqb j k ≡ b → get_or (set t k v) j 0 ≡ get_or o (2 * j) 0
        go true f = let z = eqb-true j k f in rw z (get_or-set_same t k v 0 h ∙ e ∙ i.kept (2 * k) (omega arith))
        go false f = let z = eqb-false j k f in get_or-set_other t k j v 0 z ∙ i.done j (omega (arith, z))

-- ---- places in a table

module _ (s t : List ℕ) where
  pub first-entered : (t0 : List ℕ) → 0 < length t0 → t ≡ set t0 0 0 → Entered s t 1 1
  unfolding entry_from
  first-entered t0 h e = record {
    some = omega arith;
    fits = rw (e, length-set t0 0 0) h;
    apart = omega arith;
    inside = λ k g. rw (at_first k g) (omega arith);
    begins = begin-at;
  }
    where
      at_first : (k : ℕ) → k < 1 → get_or t k 0 ≡ 0
      at_first k g = let z : k ≡ 0 = omega arith in rw (z, e) (get_or-set_same t0 0 0 0 h)

      begin-at : (k : ℕ) → k < 1 → drop (get_or t k 0) s ≡ entry_from s (k * 1)
      begin-at k g = let z : k ≡ 0 = omega arith in rw (at_first k g, z)

  -- each other place, and twice as many entries between them
  pub thin-entered : (u : List ℕ) (every n : ℕ) → n ≡ table_size → Entered s t every n → ((k : ℕ) → k < 2561 → get_or u k 0 ≡ get_or t (2 * k) 0) → length u ≡ length t → Entered s u (2 * every) 2561
  thin-entered u every n c e f g = let h = e.apart in let l = e.fits in record {
    some = omega arith;
    fits = rw g (omega arith);
    apart = omega arith;
    inside = λ k i. rw (f k i) (e.inside (2 * k) (omega arith));
    begins = λ k i. rw (f k i) (e.begins (2 * k) (omega arith) ∙ ap (entry_from s) (mul_assoc 2 k every ∙ mul_left_comm 2 k every));
  }

  -- one place more
  pub next-entered : (every n at r : ℕ) → Entered s t every n → n < length t → get_or t (n - 1) 0 ≡ at → drop r s ≡ entry_from (drop at s) every → r ≤ length s → Entered s (set t n r) every (n + 1)
  next-entered every n at r e l a w h = record {
    some = omega arith;
    fits = rw (length-set t n r) (omega arith);
    apart = e.apart;
    inside = λ k g. on (λ v. v ≤ length s) k g (e.inside k) (λ z. h);
    begins = λ k g. on (λ v. drop v s ≡ entry_from s (k * every)) k g (e.begins k) (λ z. rw z last);
  }
    where
      last : drop r s ≡ entry_from s (n * every)
      last =
          let p = e.some in
          let z : n ≡ suc (n - 1) = omega arith in
          w ∙ ap (λ (v : ℕ). entry_from (drop v s) every) (sym a) ∙ ap (λ (v : List ℕ). entry_from v every) (e.begins (n - 1) (omega arith)) ∙ entries-on s ((n - 1) * every) every
          ∙ ap (entry_from s) (sym (suc-mul (n - 1) every) ∙ ap (λ (v : ℕ). v * every) (sym z))

      on : (P : ℕ → Type 0) (k : ℕ) → k < n + 1 → (k < n → P (get_or t k 0)) → (k ≡ n → P r) → P (get_or (set t n r) k 0)
      on P k g f q = go (eqb k n) refl
        where
          go : (b : Bool) → eqb k n ≡ b → P (get_or (set t n r) k 0)
          go true i = let z = eqb-true k n i in rw z (rw (get_or-set_same t n r 0 l) (q z))
          go false i = let z = eqb-false k n i in rw (get_or-set_other t n k r 0 z) (f (omega (arith, z)))

-- ---- a byte of an entry

entry-behind : (s : List ℕ) (k : ℕ) → behind_entry (entry_from s k) ≡ entry_from s (k + 1)
unfolding entry_from
entry-behind s k = entries-on s k 1

-- byte i belongs to the last of the n entries that are noted
pub record Among (s t : List ℕ) (n i : ℕ) : Type 0 where
  pub entered : Entered s t 1 n
  pub behind : behind_entry (drop i s) ≡ entry_from s n
  pub inside : i ≤ length s

module _ (s t : List ℕ) (n i : ℕ) where
  kept-entered : (r : ℕ) → Entered s t 1 n → n < length t → Entered s (set t n r) 1 n
  kept-entered r e h = record {
    some = e.some;
    fits = rw (length-set t n r) (omega arith);
    apart = e.apart;
    inside = λ k g. rw (get_or-set_other t n k r 0 (λ z. absurd (omega (arith, z)))) (e.inside k g);
    begins = λ k g. rw (get_or-set_other t n k r 0 (λ z. absurd (omega (arith, z)))) (e.begins k g);
  }

  more-entered : (r : ℕ) → Entered s t 1 n → n < length t → drop r s ≡ entry_from s n → r ≤ length s → Entered s (set t n r) 1 (n + 1)
  more-entered r e h w g = let p = e.some in next-entered s t 1 n (get_or t (n - 1) 0) r e h refl (w ∙ ap (entry_from s) (let z : n ≡ n - 1 + 1 = omega arith in z) ∙ sym (entries-on s (n - 1) 1) ∙ ap (λ (v : List ℕ). entry_from v 1) (let z : (n - 1) * 1 ≡ n - 1 = omega arith in ap (entry_from s) (sym z) ∙ sym (e.begins (n - 1) (omega arith)))) g

  pub among-turn : (v : ℕ) → i < length s → n < length t → v ≡ bool_byte (eqb (get_or s i 0) 10) → Among s t n i → Among s (set t n (i + 1)) (n + v) (i + 1)
  among-turn v h g y a = go (eqb (get_or s i 0) 10) refl
    where
      go : (z : Bool) → eqb (get_or s i 0) 10 ≡ z → Among s (set t n (i + 1)) (n + v) (i + 1)
      go true z =
          let w = entry-stop s i h (eqb-true (get_or s i 0) 10 z) ∙ a.behind in
          let u : v ≡ 1 = rw z at y in
          rw u (record { entered = more-entered (i + 1) a.entered g w (omega arith); behind = rw w (entry-behind s n); inside = omega arith })
      go false z =
          let u : v ≡ 0 = rw z at y in
          let m : n + 0 ≡ n = omega arith in
          rw (u, m) (record { entered = kept-entered (i + 1) a.entered g; behind = sym (entry-go s i h (eqb-false (get_or s i 0) 10 z)) ∙ a.behind; inside = omega arith })

pub among-start : (s t t0 : List ℕ) → 0 < length t0 → t ≡ set t0 0 0 → Among s t 1 0
unfolding entry_from
among-start s t t0 h e = record { entered = first-entered s t t0 h e; behind = refl; inside = omega arith }

-- ---- finding

pub found : (s t : List ℕ) (every n q k r : ℕ) → Entered s t every n → q < n → q * every ≤ k → drop r s ≡ entry_from (drop (get_or t q 0) s) (k - q * every) → drop r s ≡ entry_from s k
found s t every n q k r e h g w =
    let z : q * every + (k - q * every) ≡ k = omega arith in
    w ∙ ap (λ (v : List ℕ). entry_from v (k - q * every)) (e.begins q h) ∙ entries-on s (q * every) (k - q * every) ∙ ap (entry_from s) z

-- the place that was noted last
pub next_last : (t : List ℕ) (n r : ℕ) → n < length t → get_or (set t n r) (n + 1 - 1) 0 ≡ r
next_last t n r h = let z : n + 1 - 1 ≡ n = omega arith in rw z (get_or-set_same t n r 0 h)

-- an entry by its bytes in the row
pub entry-is : (s : List ℕ) (k at end : ℕ) → drop at s ≡ entry_from s k → drop end s ≡ back (drop at s) → is_entry s k ≡ (is_small (get_or s at 0) && eqb (get_or s end 0) 10)
unfolding is_entry
entry-is s k at end e f = rw (← e, ← f, first-at s at, first-at s end)
