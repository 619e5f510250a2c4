-- Writers one behind the other.
use mathlib.Core.Path.{◌∙◌, ◌≡◌, ap, refl, sym}
use mathlib.Core.Bool.{◌&&◌, and_assoc, and-true as true-right, Bool, cond, false, true}
use mathlib.Core.List.{[], ◌++◌, ◌∷◌, List}
use Prim.Native.Nat.{◌+◌, ◌-◌, ◌<◌, ◌≤◌, min, ℕ}
use lib.Dec.{ltb}
use lib.ListN.{drop, get_or, length, length-append, length-drop, set, take}
use Rattle.std.proofs.lemmas.List.{take-append-drop}
use lib.Seq.{length-take-le, take-append_seam, take-length, take-suc}
use borrow.Author.Tests.{le-ltb, ltb-false, ltb-true}
use native.Mathlib.Omega.{arith}
use native.Mathlib.Numerals.{add-one}
use Rattle.lay.proofs.Laws.{laid-length, laid_none, laid_one, laid-past, laid_then}
use Rattle.lay.specs.Lay.{laid}
use Rattle.lay_text.specs.Laying.{capped, Left, most, Writes}
use Rattle.lay_text.specs.declared.To.{To}
use Rattle.text_names.proofs.Rest.{front-back}
use Rattle.text_names.specs.Bytes.{back, front}

-- ---- places

pub capped-in : (n : ℕ) → n ≤ most → capped n ≡ n
unfolding capped
capped-in n h = go (ltb n most) refl
  where
    go : (b : Bool) → ltb n most ≡ b → capped n ≡ n
    go true e = rw e
    go false e = let z : n ≡ most = omega (arith, ltb-false n most e) in rw (e, z)

pub capped-out : (n : ℕ) → most ≤ n → capped n ≡ most
unfolding capped
capped-out n h = rw (le-ltb n most h)

-- a sum that stays at the last place
pub capped-min : (n : ℕ) → min n most ≡ capped n
capped-min n = go (ltb n most) refl
  where
    go : (b : Bool) → ltb n most ≡ b → min n most ≡ capped n
    go true e = let h = ltb-true n most e in rw (capped-in n (omega arith)) (omega arith)
    go false e = let h = ltb-false n most e in rw (capped-out n h) (omega arith)

pub capped_le : (n : ℕ) → capped n ≤ most
capped_le n = go (ltb n most) refl
  where
    go : (b : Bool) → ltb n most ≡ b → capped n ≤ most
    go true e = let h = ltb-true n most e in rw (capped-in n (omega arith)) (omega arith)
    go false e = let h = ltb-false n most e in rw (capped-out n h) (omega arith)

pub capped-below : (n : ℕ) → capped n ≤ n
unfolding capped
capped-below n = go (ltb n most) refl
  where
    go : (b : Bool) → ltb n most ≡ b → cond b n most ≤ n
    go true e = omega arith
    go false e = omega (arith, ltb-false n most e)

pub capped-under : (n m : ℕ) → capped n ≤ m → m < most → n ≤ m
unfolding capped
capped-under n m = go (ltb n most) refl
  where
    go : (b : Bool) → ltb n most ≡ b → cond b n most ≤ m → m < most → n ≤ m
    go true e h g = h
    go false e h g = absurd (omega arith)

pub capped-add : (m n : ℕ) → capped (capped m + n) ≡ capped (m + n)
capped-add m n = go (ltb m most) refl
  where
    go : (b : Bool) → ltb m most ≡ b → capped (capped m + n) ≡ capped (m + n)
    go true e = let h = ltb-true m most e in rw (capped-in m (omega arith))
    go false e =
        let h = ltb-false m most e in
        rw (capped-out m h, capped-out (most + n) (omega arith), capped-out (m + n) (omega arith))

pub capped-laid : (o xs cs : List ℕ) (at : ℕ) → length o ≤ most → laid (laid o at xs) (capped (at + length xs)) cs ≡ laid o at (xs ++ cs)
capped-laid o xs cs at h = go (ltb (at + length xs) most) refl
  where
    go : (b : Bool) → ltb (at + length xs) most ≡ b → laid (laid o at xs) (capped (at + length xs)) cs ≡ laid o at (xs ++ cs)
    go true e = let g = ltb-true (at + length xs) most e in rw (capped-in (at + length xs) (omega arith)) (laid_then xs cs o at)
    go false e =
        let g = ltb-false (at + length xs) most e in
        let l = laid-length xs o at in
        rw (capped-out (at + length xs) g, laid-past cs (laid o at xs) most (omega arith))
        (sym (laid-past cs (laid o at xs) (at + length xs) (omega arith)) ∙ laid_then xs cs o at)

-- ---- the way of a writer

pub left-start : (o : List ℕ) (w : To) (bs : List ℕ) (ok : Bool) → length o ≤ most → w.at ≤ most → Left o w bs ok o w bs ok
left-start o w bs ok h g = record { row = refl; place = refl; named = refl; small = h; same = refl; inside = g }

pub left_step : {o : List ℕ} {w : To} {bs : List ℕ} {ok : Bool} {p : List ℕ} {x : To} {q : List ℕ} {y : To} (xs cs : List ℕ) (here rest : Bool) →
    Left o w bs ok p x (xs ++ cs) (here && rest) → Writes p x xs here q y → Left o w bs ok q y cs rest
left_step {p = p} {x = x} {q = q} {y = y} xs cs here rest l v =
    let n = laid-length xs p x.at in
    let m = l.small in
    let e : x.at + length xs + length cs ≡ x.at + length (xs ++ cs) = omega (arith, length-append xs cs) in
    record {
      row = rw (v.row, v.place) (capped-laid p xs cs x.at l.small) ∙ l.row;
      place = rw v.place (capped-add (x.at + length xs) (length cs)) ∙ ap capped e ∙ l.place;
      named = rw v.named (and_assoc x.named here rest) ∙ l.named;
      small = rw v.row (omega arith);
      same = rw v.row (n ∙ l.same);
      inside = rw v.place (capped_le (x.at + length xs));
    }

pub left_end : {o : List ℕ} {w : To} {bs : List ℕ} {ok : Bool} {p : List ℕ} {x : To} → Left o w bs ok p x [] true → Writes o w bs ok p x
left_end {o} {w} {bs} {ok} {p} {x} l =
    let h = l.small in
    let e = l.same in
    record {
      row = sym (laid_none p x.at) ∙ l.row;
      place = sym (capped-in x.at l.inside) ∙ (let z : x.at + 0 ≡ x.at = omega arith in rw z at l.place);
      named = sym (true-right x.named) ∙ l.named;
      small = omega arith;
      size = l.same;
    }

-- what is left, told otherwise
pub left_as : {o : List ℕ} {w : To} {bs : List ℕ} {ok : Bool} {p : List ℕ} {x : To} {cs ds : List ℕ} {rest other : Bool} →
    cs ≡ ds → rest ≡ other → Left o w bs ok p x cs rest → Left o w bs ok p x ds other
left_as e f l = rw (← e, ← f) l

-- nothing written
pub writes-none : (o : List ℕ) (w : To) → length o ≤ most → w.at ≤ most → Writes o w [] true o w
writes-none o w h g = left_end (left-start o w [] true h g)

-- two writers
pub writes-both : {o p q : List ℕ} {w x y : To} {bs cs : List ℕ} {a b : Bool} → Writes o w bs a p x → Writes p x cs b q y → Writes o w (bs ++ cs) (a && b) q y
writes-both {o} {p} {q} {w} {x} {y} {bs} {cs} {a} {b} f g =
    let e : w.at + length bs + length cs ≡ w.at + length (bs ++ cs) = omega (arith, length-append bs cs) in
    record {
      row = g.row ∙ rw (f.row, f.place) (capped-laid o bs cs w.at f.small);
      place = g.place ∙ rw f.place (capped-add (w.at + length bs) (length cs)) ∙ ap capped e;
      named = g.named ∙ rw f.named (and_assoc w.named a b);
      small = f.small;
      size = g.size ∙ f.size;
    }

-- ---- one byte, and a word

pub laid_word : (o p : List ℕ) (w x : To) (bs : List ℕ) → p ≡ laid o w.at bs → x.at ≡ capped (w.at + length bs) → x.named ≡ w.named → length o ≤ most → Writes o w bs true p x
laid_word o p w x bs e f g h = record { row = e; place = f; named = g ∙ sym (true-right w.named); small = h; size = rw e (laid-length bs o w.at) }

pub put_one : (o p : List ℕ) (w x : To) (b : ℕ) → p ≡ laid o w.at (b ∷ []) → x.at ≡ capped (w.at + 1) → x.named ≡ w.named → length o ≤ most → Writes o w (b ∷ []) true p x
put_one o p w x b e f g h = laid_word o p w x (b ∷ []) e f g h

-- a name by the place behind it
name-length : (s : List ℕ) (from end : ℕ) → from ≤ length s → end ≤ length s → drop end s ≡ back (drop from s) → length (front (drop from s)) ≡ end - from
name-length s from end h g e = let a = ap length (front-back (drop from s)) in omega (arith, length-append (front (drop from s)) (back (drop from s)), a, ap length e, length-drop end s, length-drop from s)

pub name-part : (s : List ℕ) (from end : ℕ) → from ≤ length s → end ≤ length s → drop end s ≡ back (drop from s) → front (drop from s) ≡ take (end - from) (drop from s)
name-part s from end h g e =
    let n = name-length s from end h g e in
    sym (ap (take (end - from)) (sym (front-back (drop from s))) ∙ rw (← n) (take-append_seam (front (drop from s)) (back (drop from s))))

-- ---- a part of a row

module _ (o b : List ℕ) (at n : ℕ) where
  -- what there is no room for leaves the row
  part-laid : n ≤ length b → (n < length b → length o ≤ at + n) → laid o at (take n b) ≡ laid o at b
  part-laid h f = go (ltb n (length b)) refl
    where
      go : (t : Bool) → ltb n (length b) ≡ t → laid o at (take n b) ≡ laid o at b
      go false e = let z : n ≡ length b = omega (arith, ltb-false n (length b) e) in rw (z, take-length b)
      go true e =
          let l : length (take n b) ≡ n = length-take-le n b h in
          let q = f (ltb-true n (length b) e) in
          let c = laid-length (take n b) o at in
          sym (laid-past (drop n b) (laid o at (take n b)) (at + n) (omega arith))
          ∙ rw l at (laid_then (take n b) (drop n b) o at)
          ∙ ap (laid o at) (take-append-drop n b)

  -- the same at the end of a loop over these n
  pub part-copied : (p : List ℕ) (k : ℕ) → at < length o → n ≡ min (length b) (length o - at) → k ≡ n → p ≡ laid o at (take k b) → p ≡ laid o at b
  part-copied p k h m e f = rw e at f ∙ part-laid (omega arith) (λ x. omega arith)

module _ (o b : List ℕ) (at : ℕ) where
  pub copy_start : o ≡ laid o at (take 0 b)
  copy_start = sym (laid_none o at)

  pub copy-turn : (p : List ℕ) (k v : ℕ) → k < length b → v ≡ get_or b k 0 → p ≡ laid o at (take k b) → set p (at + k) v ≡ laid o at (take (k + 1) b)
  copy-turn p k v h e f =
      let m : length (take k b) ≡ k = length-take-le k b (omega arith) in
      sym (laid_one p (at + k) v) ∙ rw f (rw m at (laid_then (take k b) (v ∷ []) o at))
      ∙ ap (laid o at) (sym (rw add-one (take-suc b k 0 h) ∙ ap (λ (x : ℕ). take k b ++ (x ∷ [])) (sym e)))

-- the name from one place to another, and whether it is one
pub entry-told : (o p s : List ℕ) (w y : To) (from end : ℕ) (cs : List ℕ) (ok : Bool) → from ≤ length s → end ≤ length s → drop end s ≡ back (drop from s) → front (drop from s) ≡ cs → length o ≤ most →
    p ≡ laid o w.at (take (end - from) (drop from s)) → y.at ≡ capped (w.at + (end - from)) → y.named ≡ (w.named && ok) → Writes o w cs ok p y
entry-told o p s w y from end cs ok h g e f l r a n =
    let q = name-part s from end h g e in
    let m = name-length s from end h g e in
    rw (← f) (record { row = r ∙ ap (laid o w.at) (sym q); place = a ∙ ap (λ (v : ℕ). capped (w.at + v)) (sym m); named = n; small = l; size = ap length r ∙ laid-length (take (end - from) (drop from s)) o w.at })
