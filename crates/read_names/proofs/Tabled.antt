-- Tables of places: a name found, a name added.
use mathlib.Core.Path.{◌∙◌, ◌≡◌, ap, refl, sym}
use mathlib.Core.Bool.{◌||◌, Bool, cond, false, not, true}
use mathlib.Core.List.{[], ◌++◌, ◌∷◌, List}
use Prim.Native.Nat.{◌+◌, ◌<◌, ◌≤◌, min, suc, ℕ}
use lib.Dec.{eqb, leb, ltb}
use lib.ListN.{drop, drop_of_length-le, get_or, length, length-append, length-set, set, take}
use lib.Seq.{drop-length, length-take-le, take_all, take-suc-set}
use borrow.Author.Tests.{le-ltb, leb-false, leb-true, lt-ltb, ltb-false, ltb-true, not-false, not-true}
use native.Mathlib.Omega.{arith}
use native.Mathlib.Numerals.{add-one}
use Rattle.std.specs.List.{position_or_len}
use Rattle.std.specs.Prelude.{None, Option, Some}
use Rattle.std.proofs.lemmas.List.Recursion.{is_position_or_len}
use Rattle.std.proofs.lemmas.List.Sums.{prefix_len-le-length}
use Rattle.read_names.specs.Tables.{Adds, names_at, sorted}
use Rattle.spell.specs.Forms.{in_span}
use Rattle.text_names.proofs.Added.{adds-append, cap-adds, full-add}
use Rattle.text_names.proofs.Rest.{first-at}
use Rattle.text_names.specs.Bytes.{first, front, is_capital, is_name, is_small}
use Rattle.text_names.specs.Names.{add, adds, FoundAt, look, Name, same_name}
use Rattle.text_program.proofs.Joined.{lowers-append, uppers-append}
use Rattle.text_program.specs.Numbered.{is_upper, lowers, uppers}

-- ---- lists

pub names-append : (s ps qs : List ℕ) → names_at s (ps ++ qs) ≡ names_at s ps ++ names_at s qs
unfolding names_at
names-append s [] qs = refl
names-append s (p ∷ ps) qs = ap (λ (l : List Name). front (drop p s) ∷ l) (names-append s ps qs)

pub names-length : (s ps : List ℕ) → length (names_at s ps) ≡ length ps
unfolding names_at
names-length s [] = refl
names-length s (p ∷ ps) = ap suc (names-length s ps)

-- ---- a place in a text

-- past the end of a text there is nothing
pub drop_within : (s : List ℕ) (q : ℕ) → drop (min q (length s)) s ≡ drop q s
drop_within s q = go (leb q (length s)) refl
  where
    go : (b : Bool) → leb q (length s) ≡ b → drop (min q (length s)) s ≡ drop q s
    go true e = let h = leb-true q (length s) e in let m : min q (length s) ≡ q = omega arith in rw m refl
    go false e =
        let h = leb-false q (length s) e in
        let m : min q (length s) ≡ length s = omega arith in
        rw m (drop-length s ∙ sym (drop_of_length-le s {i = q} (omega arith)))

-- ---- tables that grow

-- two additions one behind the other
pub adds_then : {s t : List ℕ} {n : ℕ} {u : List ℕ} {m : ℕ} {v : List ℕ} {k : ℕ} (xs zs : List Name) → Adds s t n u m xs → Adds s u m v k zs → Adds s t n v k (xs ++ zs)
adds_then {s} {t} {n} {u} {m} {v} {k} xs zs f g =
    record {
      names =
          g.names ∙ rw (f.size, f.names) (cap-adds (length t) zs (adds (names_at s (take n t)) xs))
          ∙ ap (λ (l : List Name). take (length t) l) (adds-append xs zs (names_at s (take n t)));
      size = g.size ∙ f.size;
      inside = g.inside;
    }

pub names_fit : (s t : List ℕ) (n : ℕ) → n ≤ length t → length (names_at s (take n t)) ≡ n
names_fit s t n h = names-length s (take n t) ∙ length-take-le n t h

pub adds_none : (s t : List ℕ) (n : ℕ) → n ≤ length t → Adds s t n t n []
unfolding adds
adds_none s t n h =
    let l = names_fit s t n h in
    record { names = sym (take_all (length t) (names_at s (take n t)) (omega arith)); size = refl; inside = h }

-- names told otherwise
pub adds-as : {s t : List ℕ} {n : ℕ} {u : List ℕ} {m : ℕ} {xs zs : List Name} → xs ≡ zs → Adds s t n u m xs → Adds s t n u m zs
adds-as e f = rw (← e) f

-- ---- a name found

module _ (s : List ℕ) (x : Name) where
  -- the name at a place is x
  abbrev is-at : ℕ → Bool
  is-at p = same_name (front (drop p s)) x

  look-position : (t : List ℕ) → look (names_at s t) x ≡ position_or_len is-at t
  unfolding names_at look
  look-position t = is_position_or_len (λ ps. look (names_at s ps) x) is-at refl (λ p ps. ap (cond (is-at p) 0) (let z : suc (look (names_at s ps) x) ≡ 1 + look (names_at s ps) x = omega arith in z)) t

  pub found-by : (t : List ℕ) (r : Option ℕ) → r ≡ cond (ltb (position_or_len is-at t) (length t)) (Some (position_or_len is-at t)) None → FoundAt (names_at s t) x r
  found-by t r e = go (ltb (position_or_len is-at t) (length t)) refl
    where
      go : (b : Bool) → ltb (position_or_len is-at t) (length t) ≡ b → FoundAt (names_at s t) x r
      go true f = rw (e, f) (sym (look-position t), (let h = ltb-true (position_or_len is-at t) (length t) f in let l = names-length s t in omega arith))
      go false f = rw (e, f) (let h = ltb-false (position_or_len is-at t) (length t) f in let g = prefix_len-le-length (λ p. not (is-at p)) t in let l = names-length s t in let m = look-position t in omega arith)

-- ---- a name added

module _ (s t : List ℕ) (n q k : ℕ) (x : Name) (h : n ≤ length t) (found : k ≡ look (names_at s (take n t)) x) where
  pub add-known : k < n → Adds s t n t n (x ∷ [])
  unfolding adds add
  add-known g =
      let l = names_fit s t n h in
      record {
        names = rw (← found, l, lt-ltb k n g) (sym (take_all (length t) (names_at s (take n t)) (omega arith)));
        size = refl;
        inside = h;
      }

  pub add-new : n ≤ k → n < length t → front (drop q s) ≡ x → Adds s t n (set t n q) (n + 1) (x ∷ [])
  unfolding adds add names_at
  add-new g r e =
      let l = names_fit s t n h in
      let z = length-append (names_at s (take n t)) (x ∷ []) in
      record {
        names =
            rw (add-one, take-suc-set t n q r, names-append s (take n t) (q ∷ []), e, ← found, l, le-ltb k n g)
            (sym (take_all (length t) (names_at s (take n t) ++ (x ∷ [])) (omega arith)));
        size = length-set t n q;
        inside = rw (length-set t n q) (omega arith);
      }

  pub add-full : length t ≤ n → Adds s t n t n (x ∷ [])
  unfolding adds
  add-full g =
      let l = names_fit s t n h in
      record {
        names = sym (full-add (length t) (names_at s (take n t)) x (omega arith) ∙ take_all (length t) (names_at s (take n t)) (omega arith));
        size = refl;
        inside = h;
      }

-- ---- variables and constants

pub sorted_none : (up : Bool) → sorted up [] ≡ []
unfolding sorted uppers lowers
sorted_none true = refl
sorted_none false = refl

pub sorted-append : (up : Bool) (xs ys : List Name) → sorted up (xs ++ ys) ≡ sorted up xs ++ sorted up ys
unfolding sorted
sorted-append true xs ys = uppers-append xs ys
sorted-append false xs ys = lowers-append xs ys

-- a name begins with the byte at its place, or is none
pub upper-at : (s : List ℕ) (q : ℕ) → is_upper (front (drop q s)) ≡ is_capital (get_or s q 0)
unfolding front is_name is_capital
upper-at s q = rw (← first-at s q) (go (drop q s))
  where
    middle : (a c d : Bool) → (a || (c || d)) ≡ false → c ≡ false
    middle true c d e = absurd (let z : ◌≡◌ {A = ℕ} 0 1 = cc in omega arith)
    middle false true d e = e
    middle false false d e = refl

    turn : (b : ℕ) (r : List ℕ) (t : Bool) → is_name b ≡ t → is_upper (cond t (b ∷ front r) []) ≡ is_capital b
    turn b r true e = refl
    turn b r false e = sym (middle (is_small b) (is_capital b) (in_span 48 9 b || eqb b 95) e)

    go : (r : List ℕ) → is_upper (front r) ≡ is_capital (first r)
    go [] = refl
    go (b ∷ r) = turn b r (is_name b) refl

module _ (s : List ℕ) (q b : ℕ) (c r up : Bool) (is : b ≡ get_or s q 0) (capital : c ≡ is_capital b) (chosen : r ≡ cond up c (not c)) where
  told : is_upper (front (drop q s)) ≡ c
  told = upper-at s q ∙ ap is_capital (sym is) ∙ sym capital

  pub note-is : r ≡ true → front (drop q s) ∷ [] ≡ sorted up (front (drop q s) ∷ [])
  unfolding sorted uppers lowers
  note-is h = go up (sym chosen ∙ h)
    where
      go : (u : Bool) → cond u c (not c) ≡ true → front (drop q s) ∷ [] ≡ sorted u (front (drop q s) ∷ [])
      go true e = rw (told, e)
      go false e = rw (told, not-true c e)

  pub note-not : r ≡ false → [] ≡ sorted up (front (drop q s) ∷ [])
  unfolding sorted uppers lowers
  note-not h = go up (sym chosen ∙ h)
    where
      go : (u : Bool) → cond u c (not c) ≡ false → [] ≡ sorted u (front (drop q s) ∷ [])
      go true e = rw (told, e)
      go false e = rw (told, not-false c e)
