-- The ways through the takers of terms.
use mathlib.Core.Path.{◌∙◌, ◌≡◌, ap, refl, sym}
use mathlib.Core.Bool.{and-true as true-right, Bool, false, not, true}
use mathlib.Core.List.{[], ◌∷◌, List, map}
use Prim.Native.Nat.{◌+◌, ◌-◌, ◌<◌, ◌≤◌, ℕ}
use lib.ListN.{drop, get_or, length, take}
use borrow.Author.Tests.{eq-eqb, ne_eqb}
use Rattle.lay_literal.proofs.Laid.{all_true, joined-map}
use Rattle.lay_literal.specs.Lows.{lows}
use Rattle.lay_text.specs.Laying.{most, Writes}
use Rattle.lay_text.specs.declared.To.{To}
use Rattle.name_index.specs.Index.{AddsOne}
use Rattle.name_index.specs.declared.Added.{Added}
use Rattle.read_goal.proofs.Turn.{row-fuel, row_last, row_more, row-none}
use Rattle.read_names.proofs.Tabled.{adds-as, adds_none, note-is, note-not, upper-at}
use Rattle.read_names.specs.Tables.{Adds, names_at}
use Rattle.take_term.proofs.Laws.{adds-whole, takes-as, takes-from, takes_none, takes-row-done, takes-row-last, takes-row-on, takes-row-start, takes-to, TakesRow}
use Rattle.take_term.specs.Takes.{Extends, moved, numbers_by, Ready, Rows, rows, Takes, TakesTerm, TakesTerms}
use Rattle.take_term.specs.declared.Reading.{Reading}
use Rattle.text_names.proofs.Added.{known-added, look-added}
use Rattle.text_names.proofs.Rest.{first-at}
use Rattle.text_names.specs.Bytes.{front, is_capital, next, past}
use Rattle.text_names.specs.Names.{add, adds, look, Name}
use Rattle.text_program.proofs.Joined.{singles}
use Rattle.text_program.specs.Encoded.{term_bytes, word_bytes}
use Rattle.text_program.specs.Numbered.{is_upper, joined, term_numbered}
use Rattle.text_program.specs.Parsing.{all_of}
use Rattle.text_program.specs.Source.{Got, got, read_brackets, read_term, row, row_for}

-- ---- one term

-- the number of a name that was added, where there was room
number-added : {s t : List ℕ} {n : ℕ} {u : List ℕ} {m : ℕ} (x : Name) (cs : List Name) → Adds s t n u m (x ∷ []) → m < length u → Extends (names_at s (take m u)) cs → look cs x ≡ look (names_at s (take n t)) x
unfolding adds
number-added {s} {t} {n} {u} {m} x cs f r e =
    let w : names_at s (take m u) ≡ add (names_at s (take n t)) x = adds-whole f r in
    e x (rw w (known-added (names_at s (take n t)) x)) ∙ ap (λ (l : List Name). look l x) w ∙ look-added (names_at s (take n t)) x

name-sort : (s : List ℕ) (q b : ℕ) (c : Bool) → b ≡ get_or s q 0 → c ≡ is_capital b → is_upper (front (drop q s)) ≡ c
name-sort s q b c is capital = upper-at s q ∙ ap is_capital (sym is) ∙ sym capital

module _ (s o t l v : List ℕ) (w : Reading) (e b : ℕ) (c : Bool) (is : b ≡ get_or s w.end 0) (capital : c ≡ is_capital b) (behind : drop e s ≡ past (drop w.end s)) (inside : e ≤ length s) (r : Ready s (rows o t l v) w) {p : List ℕ} {y : To} where
  -- a constant
  pub take-const : {u k : List ℕ} {a : Added} → c ≡ false → AddsOne s t l w.consts (front (drop w.end s)) u k a →
      Writes o (record { at = w.at; named = true }) (lows (word_bytes a.number)) true p y →
      TakesTerm s (rows o t l v) w (rows p u k v) (record { end = e; count = w.count; at = y.at; consts = a.count; vars = w.vars; fits = w.fits; declared = w.declared })
  unfolding term_numbered term_bytes lows
  take-const h f g rels =
      record {
        end = behind;
        inside = inside;
        count = refl;
        consts = adds-as (note-is s w.end b c (not c) false is capital refl (ap not h)) f.adds;
        index = f.index;
        vars = adds-as (note-not s w.end b c c true is capital refl h) (adds_none s v w.vars r.vars);
        fits = sym (true-right w.fits);
        declared = sym (true-right w.declared);
        place = λ cs vs. rw (name-sort s w.end b c is capital, h) g.place;
        bytes = λ i j cs vs d k. rw (name-sort s w.end b c is capital, h, number-added (front (drop w.end s)) cs f.adds i d, ← f.number) g.row;
        small = g.small;
        size = g.size;
      }

  -- a variable
  pub take-var : {u : List ℕ} {a : Added} → c ≡ true → Adds s v w.vars u a.count (front (drop w.end s) ∷ []) → a.number ≡ look (names_at s (take w.vars v)) (front (drop w.end s)) →
      Writes o (record { at = w.at; named = true }) (lows (word_bytes (32768 + a.number))) true p y →
      TakesTerm s (rows o t l v) w (rows p t l u) (record { end = e; count = w.count; at = y.at; consts = w.consts; vars = a.count; fits = w.fits; declared = w.declared })
  unfolding term_numbered term_bytes lows
  take-var h f n g rels =
      record {
        end = behind;
        inside = inside;
        count = refl;
        consts = adds-as (note-not s w.end b c (not c) false is capital refl (ap not h)) (adds_none s t w.consts r.index.inside);
        index = r.index;
        vars = adds-as (note-is s w.end b c c true is capital refl h) f;
        fits = sym (true-right w.fits);
        declared = sym (true-right w.declared);
        place = λ cs vs. rw (name-sort s w.end b c is capital, h) g.place;
        bytes = λ i j cs vs d k. rw (name-sort s w.end b c is capital, h, number-added (front (drop w.end s)) vs f j k, ← n) g.row;
        small = g.small;
        size = g.size;
      }

-- ---- terms

-- the bytes of a name
abbrev name_bytes : List Name → List Name → List Name → Name → List ℕ
name_bytes rels cs vs x = term_bytes (term_numbered (numbers_by rels cs vs) x)

-- some of the names of a row are taken
abbrev pub NamesLeft : List ℕ → Rows → Reading → Got (List Name) → Rows → Reading → ℕ → Got (List Name) → Type 0
NamesLeft s a w W b x n Y = (rels : List Name) → TakesRow (λ (y : Name). y ∷ []) (name_bytes rels) (λ (y : Name). true) (λ (y : Name). true) s a w W b x n Y

-- a row of names is some terms
names-taken : {s : List ℕ} {a : Rows} {w : Reading} {b : Rows} {x : Reading} (rels : List Name) (rest : List ℕ) (xs : List Name) →
    Takes s a w rest (length xs) (joined (λ (y : Name). y ∷ []) xs) (λ cs vs. joined (name_bytes rels cs vs) xs) (all_of (λ (y : Name). true) xs) (all_of (λ (y : Name). true) xs) b x →
    Takes s a w rest (length xs) xs (λ cs vs. joined term_bytes (map (term_numbered (numbers_by rels cs vs)) xs)) true true b x
names-taken rels rest xs t = takes-as refl refl (singles xs) (λ cs vs. sym (joined-map term_bytes (term_numbered (numbers_by rels cs vs)) xs)) (all_true xs) (all_true xs) t

module _ (s : List ℕ) {a : Rows} {w : Reading} where
  pub names-start : Ready s a w → length a.out ≤ most → w.at ≤ most → NamesLeft s a w (row read_term 44 (drop w.end s)) a w 0 (row_for (length s - w.end) read_term 44 (drop w.end s))
  names-start r h i rels = takes-row-start (λ (y : Name). y ∷ []) (name_bytes rels) (λ (y : Name). true) (λ (y : Name). true) (row-fuel read_term 44 s w.end (length s - w.end) refl) r h i

  module _ {W : Got (List Name)} {b : Rows} {x : Reading} {n : ℕ} (left : ℕ) (here : NamesLeft s a w W b x n (row_for left read_term 44 (drop x.end s))) where
    pub names-done : {z : Reading} → left ≤ 0 → z ≡ moved x x.end n → TakesTerms s a w W b z
    names-done h f rels =
        names-taken rels W.rest W.value (takes-row-done (λ (y : Name). y ∷ []) (name_bytes rels) (λ (y : Name). true) (λ (y : Name). true) (here rels) (row-none read_term 44 s left x.end h) f)

    module _ {c : Rows} {y : Reading} (d : ℕ) (some : 0 < left) (item : TakesTerm s b x c y) (is : d ≡ get_or s y.end 0) where
      pub names-on : {z : Reading} (e k : ℕ) → d ≡ 44 → drop e s ≡ next (drop y.end s) → e ≤ length s → z ≡ moved y e k → NamesLeft s a w W c z (n + 1) (row_for (left - 1) read_term 44 (drop z.end s))
      unfolding read_term
      names-on e k h f g i rels =
          rw i
          (takes-row-on (λ (y : Name). y ∷ []) (name_bytes rels) (λ (y : Name). true) (λ (y : Name). true) (here rels) (front (drop x.end s)) (row_for (left - 1) read_term 44 (drop e s)) e k
          (row_more read_term 44 s left x.end y.end d (item rels).end is e some h f) (item rels) refl g)

      pub names-last : {z : Reading} → (d ≡ 44 → ⊥) → z ≡ moved y y.end (n + 1) → TakesTerms s a w W c z
      unfolding read_term
      names-last h i rels =
          names-taken rels W.rest W.value
          (takes-row-last (λ (y : Name). y ∷ []) (name_bytes rels) (λ (y : Name). true) (λ (y : Name). true) (here rels) (front (drop x.end s))
          (row_last read_term 44 s left x.end y.end d (item rels).end is some h ∙ ap (λ (r : List ℕ). got (front (drop x.end s) ∷ []) r) (item rels).end) (item rels) i)

-- ---- brackets

module _ (s : List ℕ) (a : Rows) (w : Reading) (b : ℕ) (is : b ≡ get_or s w.end 0) where
  pub brackets-none : {x : Reading} → (b ≡ 40 → ⊥) → Ready s a w → x ≡ moved w w.end 0 → length a.out ≤ most → w.at ≤ most → TakesTerms s a w (read_brackets read_term (drop w.end s)) a x
  unfolding read_brackets joined
  brackets-none h r f i j rels = rw (first-at s w.end, ← is, ne_eqb b 40 h) (takes_none w.end 0 r f refl r.inside i j)

  pub brackets-some : {c : Rows} {u x y : Reading} (from e : ℕ) → b ≡ 40 → drop from s ≡ next (drop w.end s) → u ≡ moved w from 0 → TakesTerms s a u (row read_term 44 (drop u.end s)) c x → drop e s ≡ next (drop x.end s) → e ≤ length s →
      y ≡ moved x e x.count → TakesTerms s a w (read_brackets read_term (drop w.end s)) c y
  unfolding read_brackets
  brackets-some {c = c} {x = x} from e h f g t i j k rels =
      let v : TakesTerms s a (moved w from 0) (row read_term 44 (drop from s)) c x = rw g at t in
      rw (first-at s w.end, ← is, eq-eqb b 40 h, ← f)
      (takes-as refl (v rels).count refl (λ cs vs. refl) refl refl (takes-to e x.count k (i ∙ ap next (v rels).end) j (takes-from from 0 refl (v rels))))
