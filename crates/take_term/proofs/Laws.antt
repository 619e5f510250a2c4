-- Takers one behind the other.
use mathlib.Core.Path.{◌∙◌, ◌≡◌, ap, refl, sym}
use mathlib.Core.Bool.{◌&&◌, and_assoc, and-true as true-right, Bool, false, true}
use mathlib.Core.List.{[], ◌++◌, ◌∷◌, append_assoc, append-nil, List}
use Prim.Native.Nat.{◌+◌, ◌<◌, ◌≤◌, suc, zero, ℕ}
use lib.Dec.{leb}
use lib.ListN.{drop, length, length-append, set, take}
use lib.Seq.{length-take-le, take_all}
use borrow.Author.Tests.{leb-false, leb-true}
use native.Mathlib.Omega.{arith}
use Rattle.lay.specs.Lay.{laid}
use Rattle.lay_literal.proofs.Laid.{lows-append}
use Rattle.lay_literal.specs.Lows.{lows}
use Rattle.lay_text.proofs.Laws.{capped-add, capped-in, capped-laid}
use Rattle.lay_text.specs.Laying.{capped, most, Writes}
use Rattle.lay_text.specs.declared.To.{To}
use Rattle.read_names.proofs.Tabled.{adds-as, adds_none, adds_then, names_fit, sorted-append, sorted_none}
use Rattle.read_names.specs.Tables.{Adds, names_at, sorted}
use Rattle.take_term.specs.Takes.{Extends, flagged, moved, Ready, relaid, Rows, stands, Takes}
use Rattle.take_term.specs.declared.Reading.{Reading}
use Rattle.text_names.proofs.Added.{adds-grow, look-adds}
use Rattle.text_names.specs.Names.{adds, look, Name}
use Rattle.text_program.proofs.Joined.{all_append, joined-append}
use Rattle.text_program.specs.Numbered.{joined}
use Rattle.text_program.specs.Parsing.{all_of}
use Rattle.text_program.specs.Source.{cons_got, Got, got}

-- ---- tables that grow

pub extends-refl : (xs : List Name) → Extends xs xs
extends-refl xs x h = refl

module _ {s t : List ℕ} {n : ℕ} {u : List ℕ} {m : ℕ} {xs : List Name} (f : Adds s t n u m xs) where
  -- where there was room for all names, all are there
  pub adds-whole : m < length u → names_at s (take m u) ≡ adds (names_at s (take n t)) xs
  adds-whole h = go (leb (length (adds (names_at s (take n t)) xs)) (length t)) refl
    where
      go : (b : Bool) → leb (length (adds (names_at s (take n t)) xs)) (length t) ≡ b → names_at s (take m u) ≡ adds (names_at s (take n t)) xs
      go true e = f.names ∙ take_all (length t) (adds (names_at s (take n t)) xs) (leb-true (length (adds (names_at s (take n t)) xs)) (length t) e)
      go false e =
          let g = leb-false (length (adds (names_at s (take n t)) xs)) (length t) e in
          let l = length-take-le (length t) (adds (names_at s (take n t)) xs) (omega arith) in
          let k = names_fit s u m f.inside in
          let o = ap length f.names in
          let z = f.size in
          absurd (omega arith)

  adds-grows : n ≤ length t → n ≤ m
  adds-grows h = go (leb (length (adds (names_at s (take n t)) xs)) (length t)) refl
    where
      go : (b : Bool) → leb (length (adds (names_at s (take n t)) xs)) (length t) ≡ b → n ≤ m
      go true e =
          let k = names_fit s u m f.inside in
          let i = names_fit s t n h in
          let o = ap length (f.names ∙ take_all (length t) (adds (names_at s (take n t)) xs) (leb-true (length (adds (names_at s (take n t)) xs)) (length t) e)) in
          let l = adds-grow xs (names_at s (take n t)) in
          omega arith
      go false e =
          let g = leb-false (length (adds (names_at s (take n t)) xs)) (length t) e in
          let l = length-take-le (length t) (adds (names_at s (take n t)) xs) (omega arith) in
          let k = names_fit s u m f.inside in
          let o = ap length f.names in
          omega arith

  -- a table that had room for more had it before
  pub adds-room : n ≤ length t → m < length u → n < length t
  adds-room h r = let g = adds-grows h in let z = f.size in omega arith

  -- names keep their numbers while a table grows
  pub extends-then : (cs : List Name) → m < length u → Extends (names_at s (take m u)) cs → Extends (names_at s (take n t)) cs
  extends-then cs r e x k =
      let p = look-adds xs (names_at s (take n t)) x k in
      let w = adds-whole r in
      e x (rw w p.1) ∙ ap (λ (l : List Name). look l x) w ∙ p.0

-- ---- variables and constants

sorted-then : (up : Bool) {s t : List ℕ} {n : ℕ} {u : List ℕ} {m : ℕ} {v : List ℕ} {k : ℕ} (xs ys : List Name) → Adds s t n u m (sorted up xs) → Adds s u m v k (sorted up ys) → Adds s t n v k (sorted up (xs ++ ys))
sorted-then up xs ys f g = adds-as (sym (sorted-append up xs ys)) (adds_then (sorted up xs) (sorted up ys) f g)

sorted-nothing : (up : Bool) (s t : List ℕ) (n : ℕ) → n ≤ length t → Adds s t n t n (sorted up [])
sorted-nothing up s t n h = adds-as (sym (sorted_none up)) (adds_none s t n h)

-- ---- bytes

pub lows-length : (bs : List ℕ) → length (lows bs) ≡ length bs
unfolding lows
lows-length [] = refl
lows-length (b ∷ bs) = ap suc (lows-length bs)

place-both : (at m n : ℕ) (xs ys : List ℕ) → m ≡ capped (at + length xs) → n ≡ capped (m + length ys) → n ≡ capped (at + length (xs ++ ys))
place-both at m n xs ys e f =
    let z : at + length xs + length ys ≡ at + length (xs ++ ys) = omega (arith, length-append xs ys) in
    f ∙ rw e (capped-add (at + length xs) (length ys)) ∙ ap capped z

laid_both : (o p q : List ℕ) (at m : ℕ) (xs ys : List ℕ) → length o ≤ most → m ≡ capped (at + length xs) → p ≡ laid o at (lows xs) → q ≡ laid p m (lows ys) → q ≡ laid o at (lows (xs ++ ys))
laid_both o p q at m xs ys h e f g =
    let n : m ≡ capped (at + length (lows xs)) = e ∙ ap (λ (k : ℕ). capped (at + k)) (sym (lows-length xs)) in
    g ∙ rw (f, n, lows-append xs ys) (capped-laid o (lows xs) (lows ys) at h)

set-again : (l : List ℕ) (i a b : ℕ) → set (set l i a) i b ≡ set l i b
set-again [] i a b = refl
set-again (x ∷ l) zero a b = refl
set-again (x ∷ l) (suc i) a b = ap (λ (r : List ℕ). x ∷ r) (set-again l i a b)

set-order : (l : List ℕ) (i j a b : ℕ) → i < j → set (set l j b) i a ≡ set (set l i a) j b
set-order [] i j a b h = refl
set-order (x ∷ l) i zero a b h = absurd (omega arith)
set-order (x ∷ l) zero (suc j) a b h = refl
set-order (x ∷ l) (suc i) (suc j) a b h = ap (λ (r : List ℕ). x ∷ r) (set-order l i j a b (omega arith))

laid-set : (bs out : List ℕ) (i at a : ℕ) → i < at → set (laid out at bs) i a ≡ laid (set out i a) at bs
unfolding laid
laid-set [] out i at a h = refl
laid-set (b ∷ bs) out i at a h = laid-set bs (set out at b) i (suc at) a (omega arith) ∙ ap (λ (l : List ℕ). laid l (suc at) bs) (set-order out i at a b h)

-- bytes laid before those behind them
pub laid-under : (us xs out : List ℕ) (at : ℕ) → laid (laid out (at + length us) xs) at us ≡ laid out at (us ++ xs)
unfolding laid
laid-under [] xs out at = let z : at + 0 ≡ at = omega arith in rw z
laid-under (u ∷ us) xs out at =
    let z : at + suc (length us) ≡ suc at + length us = omega arith in
    rw z (ap (λ (l : List ℕ). laid l (suc at) us) (laid-set xs out at (suc at + length us) u (omega arith)) ∙ laid-under us xs (set out at u) (suc at))

-- bytes laid over those that stood in for them
laid-over : (us ds xs out : List ℕ) (at : ℕ) → length us ≡ length ds → laid (laid out at (us ++ xs)) at ds ≡ laid out at (ds ++ xs)
unfolding laid
laid-over [] [] xs out at e = refl
laid-over [] (d ∷ ds) xs out at e = absurd (omega arith)
laid-over (u ∷ us) [] xs out at e = absurd (omega arith)
laid-over (u ∷ us) (d ∷ ds) xs out at e =
    ap (λ (l : List ℕ). laid l (suc at) ds) (laid-set (us ++ xs) (set out at u) at (suc at) d (omega arith) ∙ ap (λ (l : List ℕ). laid l (suc at) (us ++ xs)) (set-again out at u d))
    ∙ laid-over us ds xs (set out at d) (suc at) (omega arith)

-- ---- takers

-- a state to take from, at another place of the text
pub ready_moved : {s : List ℕ} {a : Rows} {w u : Reading} (e n : ℕ) → Ready s a w → u ≡ moved w e n → e ≤ length s → Ready s a u
ready_moved e n r f h = rw f (record { inside = h; index = r.index; vars = r.vars })

-- nothing taken
pub takes_none : {s : List ℕ} {a : Rows} {w x : Reading} {rest : List ℕ} (e n : ℕ) → Ready s a w → x ≡ moved w e n → drop e s ≡ rest → e ≤ length s → length a.out ≤ most → w.at ≤ most →
    Takes s a w rest n [] (λ cs vs. []) true true a x
unfolding lows laid
takes_none {s} {a} {w} e n r f g h i j =
    let k = r.index.inside in
    let z : w.at + 0 ≡ w.at = omega arith in
    rw f
    (record {
      end = g;
      inside = h;
      count = refl;
      consts = sorted-nothing false s a.consts w.consts k;
      index = r.index;
      vars = sorted-nothing true s a.vars w.vars r.vars;
      fits = sym (true-right w.fits);
      declared = sym (true-right w.declared);
      place = λ cs vs. sym (rw z (capped-in w.at j));
      bytes = λ f g cs vs d e. refl;
      small = i;
      size = refl;
    })

-- bytes written, and no terms
pub takes-writes : {s : List ℕ} {a : Rows} {w x : Reading} {rest : List ℕ} {p : List ℕ} {v y : To} (e n : ℕ) (ds : List ℕ) → Ready s a w → Writes a.out v (lows ds) true p y → v.at ≡ w.at → x ≡ stands w e n y.at →
    drop e s ≡ rest → e ≤ length s → Takes s a w rest n [] (λ cs vs. ds) true true (relaid a p) x
takes-writes {s} {a} {w} e n ds r t m f g h =
    let k = r.index.inside in
    rw f
    (record {
      end = g;
      inside = h;
      count = refl;
      consts = sorted-nothing false s a.consts w.consts k;
      index = r.index;
      vars = sorted-nothing true s a.vars w.vars r.vars;
      fits = sym (true-right w.fits);
      declared = sym (true-right w.declared);
      place = λ cs vs. rw (← m, ← lows-length ds) t.place;
      bytes = λ f g cs vs d e. rw (← m) t.row;
      small = t.small;
      size = t.size;
    })

module _ {s : List ℕ} {a : Rows} {w : Reading} {rest : List ℕ} {items : ℕ} {terms : List Name} {bs : List Name → List Name → List ℕ} {g k : Bool} {b : Rows} {x : Reading} where
  -- the state behind a taker is one to take from
  pub takes-ready : Takes s a w rest items terms bs g k b x → Ready s b x
  takes-ready t = record { inside = t.inside; index = t.index; vars = t.vars.inside }

  -- what was taken, told otherwise
  pub takes-as : {rest' : List ℕ} {items' : ℕ} {terms' : List Name} {bs' : List Name → List Name → List ℕ} {g' k' : Bool} → rest ≡ rest' → items ≡ items' → terms ≡ terms' → ((cs vs : List Name) → bs cs vs ≡ bs' cs vs) → g ≡ g' → k ≡ k' →
      Takes s a w rest items terms bs g k b x → Takes s a w rest' items' terms' bs' g' k' b x
  takes-as er ei et eb eg ek t =
      record {
        end = t.end ∙ er;
        inside = t.inside;
        count = t.count ∙ ei;
        consts = adds-as (ap (sorted false) et) t.consts;
        index = t.index;
        vars = adds-as (ap (sorted true) et) t.vars;
        fits = rw (← eg) t.fits;
        declared = rw (← ek) t.declared;
        place = λ cs vs. rw (← eb cs vs) (t.place cs vs);
        bytes = λ p q cs vs d e. rw (← eb cs vs) (t.bytes p q cs vs d e);
        small = t.small;
        size = t.size;
      }

  -- a taker may start from another place of the text, with another count
  pub takes-from : {v : Reading} (e n : ℕ) → w ≡ moved v e n → Takes s a w rest items terms bs g k b x → Takes s a v rest items terms bs g k b x
  takes-from {v} e n f t =
      let t' : Takes s a (moved v e n) rest items terms bs g k b x = rw (← f) t in
      record {
        end = t'.end;
        inside = t'.inside;
        count = t'.count;
        consts = t'.consts;
        index = t'.index;
        vars = t'.vars;
        fits = t'.fits;
        declared = t'.declared;
        place = t'.place;
        bytes = t'.bytes;
        small = t'.small;
        size = t'.size;
      }

  -- and may be told to end there
  pub takes-to : {y : Reading} {rest' : List ℕ} (e n : ℕ) → y ≡ moved x e n → drop e s ≡ rest' → e ≤ length s → Takes s a w rest items terms bs g k b x → Takes s a w rest' n terms bs g k b y
  takes-to e n f h i t =
      rw f
      (record {
        end = h;
        inside = i;
        count = refl;
        consts = t.consts;
        index = t.index;
        vars = t.vars;
        fits = t.fits;
        declared = t.declared;
        place = t.place;
        bytes = t.bytes;
        small = t.small;
        size = t.size;
      })

  -- with tests of its own
  pub takes-flags : {y : Reading} (g' k' f d : Bool) → y ≡ flagged x f d → f ≡ (x.fits && g') → d ≡ (x.declared && k') → Takes s a w rest items terms bs g k b x → Takes s a w rest items terms bs (g && g') (k && k') b y
  takes-flags g' k' f d e i j t =
      rw e
      (record {
        end = t.end;
        inside = t.inside;
        count = t.count;
        consts = t.consts;
        index = t.index;
        vars = t.vars;
        fits = i ∙ rw t.fits (and_assoc w.fits g g');
        declared = j ∙ rw t.declared (and_assoc w.declared k k');
        place = t.place;
        bytes = t.bytes;
        small = t.small;
        size = t.size;
      })

  -- another taker behind it
  pub takes-then : {rest' : List ℕ} {items' : ℕ} {terms' : List Name} {bs' : List Name → List Name → List ℕ} {g' k' : Bool} {c : Rows} {y : Reading} →
      Takes s a w rest items terms bs g k b x → Takes s b x rest' items' terms' bs' g' k' c y → Takes s a w rest' items' (terms ++ terms') (λ cs vs. bs cs vs ++ bs' cs vs) (g && g') (k && k') c y
  takes-then {terms' = terms'} {bs' = bs'} {g' = g'} {k' = k'} {c = c} {y = y} t u =
      record {
        end = u.end;
        inside = u.inside;
        count = u.count;
        consts = sorted-then false terms terms' t.consts u.consts;
        index = u.index;
        vars = sorted-then true terms terms' t.vars u.vars;
        fits = u.fits ∙ rw t.fits (and_assoc w.fits g g');
        declared = u.declared ∙ rw t.declared (and_assoc w.declared k k');
        place = λ cs vs. place-both w.at x.at y.at (bs cs vs) (bs' cs vs) (t.place cs vs) (u.place cs vs);
        bytes = λ p q cs vs d e.
            laid_both a.out b.out c.out w.at x.at (bs cs vs) (bs' cs vs) t.small (t.place cs vs)
            (t.bytes (adds-room u.consts t.consts.inside p) (adds-room u.vars t.vars.inside q) cs vs (extends-then u.consts cs p d) (extends-then u.vars vs q e))
            (u.bytes p q cs vs d e);
        small = t.small;
        size = u.size ∙ t.size;
      }

module _ {s : List ℕ} {a : Rows} {w : Reading} {rest : List ℕ} {items : ℕ} {terms : List Name} {g k : Bool} {b : Rows} {x : Reading} where
  -- bytes written over those that stood in for them at its start
  takes-patched : {p : List ℕ} {v y : To} (us ds : List ℕ) (bs : List Name → List Name → List ℕ) → length us ≡ length ds → Takes s a w rest items terms (λ cs vs. us ++ bs cs vs) g k b x → Writes b.out v (lows ds) true p y → v.at ≡ w.at →
      Takes s a w rest items terms (λ cs vs. ds ++ bs cs vs) g k (relaid b p) x
  takes-patched {p} us ds bs e t f h =
      record {
        end = t.end;
        inside = t.inside;
        count = t.count;
        consts = t.consts;
        index = t.index;
        vars = t.vars;
        fits = t.fits;
        declared = t.declared;
        place = λ cs vs.
            let z : w.at + length (us ++ bs cs vs) ≡ w.at + length (ds ++ bs cs vs) = omega (arith, length-append us (bs cs vs), length-append ds (bs cs vs)) in
            t.place cs vs ∙ ap capped z;
        bytes = λ q r cs vs d i.
            let z : length (lows us) ≡ length (lows ds) = lows-length us ∙ e ∙ sym (lows-length ds) in
            f.row
            ∙ rw (h, t.bytes q r cs vs d i, lows-append us (bs cs vs), lows-append ds (bs cs vs)) (laid-over (lows us) (lows ds) (lows (bs cs vs)) a.out w.at z);
        small = t.small;
        size = f.size ∙ t.size;
      }

  -- one byte that stood in for a count
  pub takes-counted : {p : List ℕ} {v y : To} {bs : List Name → List Name → List ℕ} (u d : ℕ) → Takes s a w rest items terms (λ cs vs. u ∷ bs cs vs) g k b x → Writes b.out v (lows (d ∷ [])) true p y → v.at ≡ w.at →
      Takes s a w rest items terms (λ cs vs. d ∷ bs cs vs) g k (relaid b p) x
  takes-counted {bs = bs} u d t f h = takes-patched (u ∷ []) (d ∷ []) bs refl t f h

-- bytes written before a taker
pub takes-after : {s : List ℕ} {a : Rows} {w u : Reading} {p : List ℕ} {v y : To} {rest : List ℕ} {items : ℕ} {terms : List Name} {bs : List Name → List Name → List ℕ} {g k : Bool} {b : Rows} {x : Reading} (e n : ℕ) (ds : List ℕ) →
    Writes a.out v (lows ds) true p y → v.at ≡ w.at → u ≡ stands w e n y.at → Takes s (relaid a p) u rest items terms bs g k b x → Takes s a w rest items terms (λ cs vs. ds ++ bs cs vs) g k b x
takes-after {s} {a} {w} {u} {p} {v} {y} {rest} {items} {terms} {bs} {g} {k} {b} {x} e n ds f h i t =
    let t' : Takes s (relaid a p) (stands w e n y.at) rest items terms bs g k b x = rw (← i) t in
    let m : y.at ≡ capped (w.at + length ds) = rw (← h, ← lows-length ds) f.place in
    record {
      end = t'.end;
      inside = t'.inside;
      count = t'.count;
      consts = t'.consts;
      index = t'.index;
      vars = t'.vars;
      fits = t'.fits;
      declared = t'.declared;
      place = λ cs vs. place-both w.at y.at x.at ds (bs cs vs) m (t'.place cs vs);
      bytes = λ q r cs vs d e. laid_both a.out p b.out w.at y.at ds (bs cs vs) f.small m (rw (← h) f.row) (t'.bytes q r cs vs d e);
      small = f.small;
      size = t'.size ∙ f.size;
    }

-- ---- rows of items

-- of the row W, to be taken from w on, n items are done, which has come to x; Y is left
pub record TakesRow {A : Type 0} (terms : A → List Name) (bytes : List Name → List Name → A → List ℕ) (ok sure : A → Bool) (s : List ℕ) (a : Rows) (w : Reading) (W : Got (List A)) (b : Rows) (x : Reading) (n : ℕ) (Y : Got (List A)) : Type 0 where
  pub done : List A
  pub whole : W ≡ got (done ++ Y.value) Y.rest
  pub many : n ≡ length done
  pub taken : Takes s a w (drop x.end s) x.count (joined terms done) (λ cs vs. joined (bytes cs vs) done) (all_of ok done) (all_of sure done) b x

module _ {A : Type 0} (terms : A → List Name) (bytes : List Name → List Name → A → List ℕ) (ok sure : A → Bool) {s : List ℕ} {a : Rows} {w : Reading} where
  -- one item more, done by a taker
  row_one : {b c : Rows} {x y : Reading} {rest : List ℕ} {m : ℕ} (i : A) (done : List A) →
      Takes s a w (drop x.end s) x.count (joined terms done) (λ cs vs. joined (bytes cs vs) done) (all_of ok done) (all_of sure done) b x →
      Takes s b x rest m (terms i) (λ cs vs. bytes cs vs i) (ok i) (sure i) c y →
      Takes s a w rest m (joined terms (done ++ (i ∷ []))) (λ cs vs. joined (bytes cs vs) (done ++ (i ∷ []))) (all_of ok (done ++ (i ∷ []))) (all_of sure (done ++ (i ∷ []))) c y
  unfolding joined all_of
  row_one i done t u =
      takes-as refl refl
      (ap (λ (l : List Name). joined terms done ++ l) (sym (append-nil (terms i))) ∙ sym (joined-append terms done (i ∷ [])))
      (λ cs vs. ap (λ (l : List ℕ). joined (bytes cs vs) done ++ l) (sym (append-nil (bytes cs vs i))) ∙ sym (joined-append (bytes cs vs) done (i ∷ [])))
      (ap (λ (z : Bool). all_of ok done && z) (sym (true-right (ok i))) ∙ sym (all_append ok done (i ∷ [])))
      (ap (λ (z : Bool). all_of sure done && z) (sym (true-right (sure i))) ∙ sym (all_append sure done (i ∷ [])))
      (takes-then t u)

module _ {A : Type 0} (terms : A → List Name) (bytes : List Name → List Name → A → List ℕ) (ok sure : A → Bool) {s : List ℕ} {a : Rows} {w : Reading} {W : Got (List A)} where
  -- a row begins
  pub takes-row-start : {Y : Got (List A)} → Y ≡ W → Ready s a w → length a.out ≤ most → w.at ≤ most → TakesRow terms bytes ok sure s a w W a w 0 Y
  unfolding joined all_of
  takes-row-start e r h i = record { done = []; whole = sym e; many = refl; taken = takes_none w.end w.count r refl refl r.inside h i }

  module _ {b : Rows} {x : Reading} {n : ℕ} {Y : Got (List A)} (here : TakesRow terms bytes ok sure s a w W b x n Y) {c : Rows} {y : Reading} {rest : List ℕ} {m : ℕ} where
    -- one item more, and others behind it
    pub takes-row-on : {z : Reading} (i : A) (Z : Got (List A)) (e k : ℕ) → Y ≡ cons_got i Z → Takes s b x rest m (terms i) (λ cs vs. bytes cs vs i) (ok i) (sure i) c y → z ≡ moved y e k → e ≤ length s →
        TakesRow terms bytes ok sure s a w W c z (n + 1) Z
    takes-row-on {z} i Z e k f u g h =
        record {
          done = here.done ++ (i ∷ []);
          whole = here.whole ∙ ap (λ (G : Got (List A)). got (here.done ++ G.value) G.rest) f ∙ ap (λ (l : List A). got l Z.rest) (sym (append_assoc here.done (i ∷ []) Z.value));
          many = omega (arith, here.many, length-append here.done (i ∷ []));
          taken = rw g (takes-to e k refl refl h (row_one terms bytes ok sure i here.done here.taken u));
        }

    -- the last item
    pub takes-row-last : {z : Reading} (i : A) → Y ≡ got (i ∷ []) rest → Takes s b x rest m (terms i) (λ cs vs. bytes cs vs i) (ok i) (sure i) c y → z ≡ moved y y.end (n + 1) →
        Takes s a w W.rest (length W.value) (joined terms W.value) (λ cs vs. joined (bytes cs vs) W.value) (all_of ok W.value) (all_of sure W.value) c z
    takes-row-last i f u g =
        let e : W ≡ got (here.done ++ (i ∷ [])) rest = here.whole ∙ ap (λ (G : Got (List A)). got (here.done ++ G.value) G.rest) f in
        let l : n + 1 ≡ length (here.done ++ (i ∷ [])) = omega (arith, here.many, length-append here.done (i ∷ [])) in
        rw e (takes-as refl l refl (λ cs vs. refl) refl refl (takes-to y.end (n + 1) g u.end u.inside (row_one terms bytes ok sure i here.done here.taken u)))

  -- no item more
  pub takes-row-done : {b : Rows} {x z : Reading} {n : ℕ} {Y : Got (List A)} → TakesRow terms bytes ok sure s a w W b x n Y → Y ≡ got [] (drop x.end s) → z ≡ moved x x.end n →
      Takes s a w W.rest (length W.value) (joined terms W.value) (λ cs vs. joined (bytes cs vs) W.value) (all_of ok W.value) (all_of sure W.value) b z
  takes-row-done {x = x} {n = n} here f g =
      let e : W ≡ got here.done (drop x.end s) = here.whole ∙ ap (λ (G : Got (List A)). got (here.done ++ G.value) G.rest) f ∙ ap (λ (l : List A). got l (drop x.end s)) (append-nil here.done) in
      rw e (takes-as refl here.many refl (λ cs vs. refl) refl refl (takes-to x.end n g refl here.taken.inside here.taken))
