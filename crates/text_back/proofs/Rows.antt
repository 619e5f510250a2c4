-- A row of items is read back, if each item is.
use mathlib.Core.Path.{◌∙◌, ◌≡◌, ap}
use mathlib.Core.Bool.{Bool, false, true}
use mathlib.Core.List.{[], ◌++◌, ◌∷◌, append_assoc, List, map}
use Prim.Native.Nat.{◌<◌, ◌≤◌, suc, zero, ℕ}
use lib.Dec.{eqb}
use lib.ListN.{length, length-append}
use borrow.Author.Tests.{eq-eqb, ne_eqb}
use native.Mathlib.Omega.{arith}
use Rattle.parlog.specs.Orders.{Each}
use Rattle.text_names.specs.Bytes.{first, is_blank, next, skip}
use Rattle.text_program.specs.Numbered.{joined}
use Rattle.text_program.specs.Printing.{bracket_text, rest_text, row_text}
use Rattle.text_program.specs.Source.{cons_got, Got, got, read_brackets, Reader, row, row_by, row_for}

-- how items are read and written, which value each has, which are in order, and what may stand behind one
pub record Way (A B : Type 0) : Type 1 where
  pub read : Reader B
  pub text : A → List ℕ
  pub value : A → B
  pub Ok : A → Type 0
  pub Shut : List ℕ → Type 0

pub record Back {A B : Type 0} (w : Way A B) : Type 0 where
  pub item : (x : A) (rest : List ℕ) → w.Ok x → w.Shut rest → w.read (w.text x ++ rest) ≡ got (w.value x) (skip rest)
  pub begins : (x : A) (rest : List ℕ) → w.Ok x → skip (w.text x ++ rest) ≡ w.text x ++ rest
  pub some : (x : A) → w.Ok x → 0 < length (w.text x)

-- what stands between: shut for an item, and read as the mark
pub record Between {A B : Type 0} (w : Way A B) (mark : ℕ) (between : List ℕ) : Type 0 where
  pub shut : (s : List ℕ) → w.Shut (between ++ s)
  pub there : (s : List ℕ) → first (skip (between ++ s)) ≡ mark
  pub past-it : (s : List ℕ) → next (skip (between ++ s)) ≡ skip s

-- ---- the rest of a row

pub rest_more : {A : Type 0} (text : A → List ℕ) (between : List ℕ) (y : A) (ys : List A) (rest : List ℕ) →
    rest_text text between (y ∷ ys) ++ rest ≡ between ++ (text y ++ (rest_text text between ys ++ rest))
unfolding joined
rest_more text between y ys rest =
    append_assoc (between ++ text y) (rest_text text between ys) rest ∙ append_assoc between (text y) (rest_text text between ys ++ rest)

pub row-split : {A : Type 0} (text : A → List ℕ) (between : List ℕ) (x : A) (xs : List A) (rest : List ℕ) →
    row_text text between (x ∷ xs) ++ rest ≡ text x ++ (rest_text text between xs ++ rest)
unfolding row_text
row-split text between x xs rest = append_assoc (text x) (rest_text text between xs) rest

module _ {A B : Type 0} (w : Way A B) (b : Back w) (mark : ℕ) (between : List ℕ) (m : Between w mark between) where
  abbrev rests : List A → List ℕ → List ℕ
  rests xs rest = rest_text w.text between xs ++ rest

  rests-long : (xs : List A) (rest : List ℕ) → Each w.Ok xs → length xs ≤ length (rests xs rest)
  unfolding joined
  rests-long [] rest o = omega arith
  rests-long (y ∷ ys) rest o =
      rw (rest_more w.text between y ys rest)
      (omega (arith, b.some y o.0, rests-long ys rest o.1, length-append between (w.text y ++ rests ys rest), length-append (w.text y) (rests ys rest)))

  row_step : (f : ℕ) (s : List ℕ) (g : Got B) (t : Bool) → w.read s ≡ g → eqb (first g.rest) mark ≡ t → row_for (suc f) w.read mark s ≡ row_by (row_for f w.read mark) t g
  unfolding row_for
  row_step f s g t e h = rw (e, h)

  row-for : (f : ℕ) (x : A) (xs : List A) (rest : List ℕ) → suc (length xs) ≤ f → Each w.Ok (x ∷ xs) → w.Shut rest → (first (skip rest) ≡ mark → ⊥) →
      row_for f w.read mark (w.text x ++ rests xs rest) ≡ got (map w.value (x ∷ xs)) (skip rest)
  unfolding joined
  row-for zero x xs rest l o h e = absurd (omega arith)
  row-for (suc f) x [] rest l o h e = row_step f (w.text x ++ rest) _ false (b.item x rest o.0 h) (ne_eqb _ _ e)
  row-for (suc f) x (y ∷ ys) rest l o h e =
      let r = w.text y ++ rests ys rest in
      ap (λ (s : List ℕ). row_for (suc f) w.read mark (w.text x ++ s)) (rest_more w.text between y ys rest)
      ∙ row_step f (w.text x ++ (between ++ r)) _ true (b.item x (between ++ r) o.0 (m.shut r)) (eq-eqb _ _ (m.there r))
      ∙ ap (cons_got (w.value x)) (ap (row_for f w.read mark) (m.past-it r ∙ b.begins y (rests ys rest) o.1.0) ∙ row-for f y ys rest (omega arith) o.1 h e)

  pub row_back : (x : A) (xs : List A) (rest : List ℕ) → Each w.Ok (x ∷ xs) → w.Shut rest → (first (skip rest) ≡ mark → ⊥) →
      row w.read mark (row_text w.text between (x ∷ xs) ++ rest) ≡ got (map w.value (x ∷ xs)) (skip rest)
  row_back x xs rest o h e =
      ap (row w.read mark) (row-split w.text between x xs rest)
      ∙ row-for (length (w.text x ++ rests xs rest)) x xs rest (omega (arith, b.some x o.0, rests-long xs rest o.1, length-append (w.text x) (rests xs rest))) o h e

-- ---- rows are items too

abbrev pub RowOk : {A : Type 0} → (A → Type 0) → List A → Type 0
RowOk Ok [] = ⊥
RowOk Ok (x ∷ xs) = Each Ok (x ∷ xs)

abbrev pub row_way : {A B : Type 0} → Way A B → ℕ → List ℕ → Way (List A) (List B)
row_way w mark between = record {
  read = row w.read mark;
  text = row_text w.text between;
  value = map w.value;
  Ok = RowOk w.Ok;
  Shut = λ s. w.Shut s × (first (skip s) ≡ mark → ⊥);
}

module _ {A B : Type 0} (w : Way A B) (b : Back w) (mark : ℕ) (between : List ℕ) (m : Between w mark between) where
  rows-item : (xs : List A) (rest : List ℕ) → RowOk w.Ok xs → w.Shut rest × (first (skip rest) ≡ mark → ⊥) →
      row w.read mark (row_text w.text between xs ++ rest) ≡ got (map w.value xs) (skip rest)
  rows-item [] rest o h = absurd o
  rows-item (x ∷ xs) rest o h = row_back w b mark between m x xs rest o h.0 h.1

  rows-begin : (xs : List A) (rest : List ℕ) → RowOk w.Ok xs → skip (row_text w.text between xs ++ rest) ≡ row_text w.text between xs ++ rest
  rows-begin [] rest o = absurd o
  rows-begin (x ∷ xs) rest o =
      let e = row-split w.text between x xs rest in
      rw e (b.begins x (rest_text w.text between xs ++ rest) o.0)

  rows-some : (xs : List A) → RowOk w.Ok xs → 0 < length (row_text w.text between xs)
  unfolding row_text
  rows-some [] o = absurd o
  rows-some (x ∷ xs) o = omega (arith, b.some x o.0, length-append (w.text x) (rest_text w.text between xs))

  pub rows_back : Back (row_way w mark between)
  rows_back = record { item = rows-item; begins = rows-begin; some = rows-some }

-- ---- items in brackets

pub bracket-split : {A : Type 0} (text : A → List ℕ) (x : A) (xs : List A) (rest : List ℕ) → bracket_text text (x ∷ xs) ++ rest ≡ 40 ∷ (row_text text (44 ∷ []) (x ∷ xs) ++ (41 ∷ rest))
unfolding bracket_text
bracket-split text x xs rest = ap (λ (s : List ℕ). 40 ∷ s) (append_assoc (row_text text (44 ∷ []) (x ∷ xs)) (41 ∷ []) rest)

module _ {A B : Type 0} (w : Way A B) (b : Back w) (m : Between w 44 (44 ∷ [])) (shuts : (s : List ℕ) → w.Shut (41 ∷ s)) where
  brackets-none : (s : List ℕ) → (first s ≡ 40 → ⊥) → read_brackets w.read s ≡ got [] s
  unfolding read_brackets
  brackets-none s h = rw (ne_eqb (first s) 40 h)

  brackets-open : (t : List ℕ) (g : Got (List B)) → row w.read 44 (skip t) ≡ g → read_brackets w.read (40 ∷ t) ≡ got g.value (next g.rest)
  unfolding read_brackets
  brackets-open t g e = rw e

  pub brackets-back : (xs : List A) (rest : List ℕ) → Each w.Ok xs → (first (skip rest) ≡ 40 → ⊥) → read_brackets w.read (skip (bracket_text w.text xs ++ rest)) ≡ got (map w.value xs) (skip rest)
  unfolding skip is_blank
  brackets-back [] rest o h = unfold bracket_text in brackets-none (skip rest) h
  brackets-back (x ∷ xs) rest o h =
      let t = row_text w.text (44 ∷ []) (x ∷ xs) ++ (41 ∷ rest) in
      ap (λ (s : List ℕ). read_brackets w.read (skip s)) (bracket-split w.text x xs rest)
      ∙ brackets-open t _ (ap (row w.read 44) ((rows_back w b 44 (44 ∷ []) m).begins (x ∷ xs) (41 ∷ rest) o) ∙ row_back w b 44 (44 ∷ []) m x xs (41 ∷ rest) o (shuts rest) (λ e. omega arith))

  -- what stands behind a name: brackets, or what follows them
  pub brackets-first : (xs : List A) (rest : List ℕ) (P : ℕ → Type 0) → P 40 → P (first rest) → P (first (bracket_text w.text xs ++ rest))
  unfolding bracket_text
  brackets-first [] rest P p q = q
  brackets-first (x ∷ xs) rest P p q = p

  pub brackets-skip : (xs : List A) (rest : List ℕ) (P : ℕ → Type 0) → P 40 → P (first (skip rest)) → P (first (skip (bracket_text w.text xs ++ rest)))
  unfolding bracket_text skip is_blank
  brackets-skip [] rest P p q = q
  brackets-skip (x ∷ xs) rest P p q = p
