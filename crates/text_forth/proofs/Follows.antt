-- In a clause text the reader goes from place to place as the grammar does, and every term begins with a letter.
use mathlib.Core.Path.{◌∙◌, ◌≡◌, ap, refl, sym}
use mathlib.Core.Bool.{◌||◌, false, true}
use mathlib.Core.List.{[], ◌∷◌, List}
use Prim.Native.Nat.{◌+◌, ◌<◌, ◌≤◌, suc, zero, ℕ}
use lib.Dec.{eqb, leb}
use lib.ListN.{length}
use borrow.Author.Tests.{eq-eqb, leb-true, ne_eqb}
use native.Mathlib.Omega.{arith}
use Rattle.std.proofs.lemmas.Bool.{and_parts, false_from_ne_true, or_left, or_right}
use Rattle.parlog.proofs.Bools.{never}
use Rattle.parlog.specs.Orders.{Each}
use Rattle.spell.specs.Forms.{◌or◌, ◌then◌, Form, in_span, many, read_byte, read-end, read_left, read_more, read_none, read_right, read_then, Reads, span}
use Rattle.spell.specs.Grammar.{blank, blanks, bracketed, capital, goal, literal, lower, mark, name_byte, small, term}
use Rattle.text_back.proofs.Begin.{back_none, first-front, front-all, letter-high, letter-name, name-solid, skip_at, small-name, Spelt}
use Rattle.text_names.specs.Bytes.{back, first, front, is_blank, is_capital, is_name, is_small, next, past, skip}
use Rattle.text_program.specs.Numbered.{said_terms}
use Rattle.text_program.specs.Source.{Got, read_brackets, Reader, read_goal, read_literal, read_term, row, row_for, Said}

-- ---- one byte

pub data First (P : ℕ → Type 0) : List ℕ → List ℕ → Type 0 where
  one : {b : ℕ} {t : List ℕ} → P b → First P (b ∷ t) t

pub one_byte : (m b : ℕ) → in_span m 0 b ≡ true → b ≡ m
one_byte m b e = let w = and_parts (leb m b) (leb b (m + 0)) e in omega (arith, leb-true m b w.0, leb-true b (m + 0) w.1)

is-small : (b : ℕ) → in_span 97 25 b ≡ true → is_small b ≡ true
unfolding is_small
is-small b e = e

small-letter : (b : ℕ) → in_span 97 25 b ≡ true → (is_small b || is_capital b) ≡ true
unfolding is_small
small-letter b e = or_left (in_span 97 25 b) _ e

capital-letter : (b : ℕ) → in_span 65 25 b ≡ true → (is_small b || is_capital b) ≡ true
unfolding is_capital
capital-letter b e = or_right (is_small b) _ e

pub small-in-name : (b : ℕ) → in_span 97 25 b ≡ true → is_name b ≡ true
unfolding is_name is_small
small-in-name b e = or_left (in_span 97 25 b) _ e

pub capital-in-name : (b : ℕ) → in_span 65 25 b ≡ true → is_name b ≡ true
unfolding is_name is_capital
capital-in-name b e = or_right (is_small b) _ (or_left (in_span 65 25 b) _ e)

digit-in-name : (b : ℕ) → in_span 48 9 b ≡ true → is_name b ≡ true
unfolding is_name
digit-in-name b e = or_right (is_small b) _ (or_right (is_capital b) _ (or_left (in_span 48 9 b) _ e))

bar-in-name : (b : ℕ) → in_span 95 0 b ≡ true → is_name b ≡ true
unfolding is_name
bar-in-name b e = or_right (is_small b) _ (or_right (is_capital b) _ (or_right (in_span 48 9 b) _ (eq-eqb b 95 (one_byte 95 b e))))

tab-blank : (b : ℕ) → in_span 9 1 b ≡ true → is_blank b ≡ true
unfolding is_blank
tab-blank b e = or_left (in_span 9 1 b) _ e

return-blank : (b : ℕ) → in_span 13 0 b ≡ true → is_blank b ≡ true
unfolding is_blank
return-blank b e = or_right (in_span 9 1 b) _ (or_left (eqb b 13) _ (eq-eqb b 13 (one_byte 13 b e)))

space-blank : (b : ℕ) → in_span 32 0 b ≡ true → is_blank b ≡ true
unfolding is_blank
space-blank b e = or_right (in_span 9 1 b) _ (or_right (eqb b 13) _ (eq-eqb b 32 (one_byte 32 b e)))

pub span-first : {P : ℕ → Type 0} {a n : ℕ} {s t : List ℕ} → ((b : ℕ) → in_span a n b ≡ true → P b) → Reads (span a n) s t → First P s t
span-first f (read_byte {b = b} e) = one (f b e)

either : {P : ℕ → Type 0} {x y : Form} {s t : List ℕ} → (Reads x s t → First P s t) → (Reads y s t → First P s t) → Reads (x or y) s t → First P s t
either f g (read_left p) = f p
either f g (read_right p) = g p

abbrev pub N : ℕ → Type 0
N b = is_name b ≡ true

abbrev pub B : ℕ → Type 0
B b = is_blank b ≡ true

abbrev S : ℕ → Type 0
S b = is_small b ≡ true

abbrev L : ℕ → Type 0
L b = (is_small b || is_capital b) ≡ true

pub name-first : {s t : List ℕ} → Reads name_byte s t → First N s t
name-first = either {P = N} (span-first {P = N} small-in-name) (either {P = N} (span-first {P = N} capital-in-name) (either {P = N} (span-first {P = N} digit-in-name) (span-first {P = N} bar-in-name)))

pub blank-first : {s t : List ℕ} → Reads blank s t → First B s t
blank-first = either {P = B} (span-first {P = B} tab-blank) (either {P = B} (span-first {P = B} return-blank) (span-first {P = B} space-blank))

letter-first : {s t : List ℕ} → Reads (small or capital) s t → First L s t
letter-first = either {P = L} (span-first {P = L} small-letter) (span-first {P = L} capital-letter)

small-first : {s t : List ℕ} → Reads small s t → First S s t
small-first = span-first {P = S} is-small

blank-no-name : (b : ℕ) → is_blank b ≡ true → is_name b ≡ false
blank-no-name b e = false_from_ne_true (is_name b) (λ f. never (sym (name-solid b f) ∙ e))

-- ---- names and blanks

-- what neither goes on with a name nor with blanks
pub record Solid (t : List ℕ) : Type 0 where
  pub name : is_name (first t) ≡ false
  pub blank : is_blank (first t) ≡ false

blanks-step : {s m t : List ℕ} → First B s m → t ≡ skip m → t ≡ skip s
unfolding skip
blanks-step (one e) h = rw e h

pub blanks-skip : {s t : List ℕ} → Reads blanks s t → is_blank (first t) ≡ false → t ≡ skip s
blanks-skip {s} read-end h = sym (skip_at s h)
blanks-skip (read_more p q) h = blanks-step (blank-first p) (blanks-skip q h)

pub first-blank : {s m : List ℕ} → First B s m → is_name (first s) ≡ false
first-blank (one {b = b} e) = blank-no-name b e

pub blanks-before : {s t : List ℕ} → Reads blanks s t → is_name (first t) ≡ false → is_name (first s) ≡ false
blanks-before read-end h = h
blanks-before (read_more p q) h = first-blank (blank-first p)

names-step : {s m t : List ℕ} → First N s m → t ≡ back m → t ≡ back s
unfolding back
names-step (one e) h = rw e h

names-back : {s t : List ℕ} → Reads (many name_byte) s t → is_name (first t) ≡ false → t ≡ back s
names-back {s} read-end h = sym (back_none s h)
names-back (read_more p q) h = names-step (name-first p) (names-back q h)

-- a name with the blanks behind it
passed : {s m u t : List ℕ} → First N s m → Reads (many name_byte) m u → Reads blanks u t → Solid t → past s ≡ t
passed {s} {m} {u} {t} f q r h =
    let e = names-step f (names-back q (blanks-before r h.name)) in
    sym (blanks-skip r h.blank ∙ ap skip e)

letter-n : {s m : List ℕ} → First L s m → First N s m
letter-n (one {b = b} e) = one (letter-name b e)

small_n : {s m : List ℕ} → First S s m → First N s m
small_n (one {b = b} e) = one (small-name b e)

letter_at : {s m : List ℕ} → First L s m → (is_small (first s) || is_capital (first s)) ≡ true
letter_at (one e) = e

small_at : {s m : List ℕ} → First S s m → is_small (first s) ≡ true
small_at (one e) = e

pub term-past : {s t : List ℕ} → Reads term s t → Solid t → past s ≡ t
term-past (read_then (read_then p q) r) h = passed (letter-n (letter-first p)) q r h

pub lower-past : {s t : List ℕ} → Reads lower s t → Solid t → past s ≡ t
lower-past (read_then (read_then p q) r) h = passed (small_n (small-first p)) q r h

pub term-letter : {s t : List ℕ} → Reads term s t → (is_small (first s) || is_capital (first s)) ≡ true
term-letter (read_then (read_then p q) r) = letter_at (letter-first p)

pub lower-small : {s t : List ℕ} → Reads lower s t → is_small (first s) ≡ true
lower-small (read_then (read_then p q) r) = small_at (small-first p)

pub lower-letter : {s t : List ℕ} → Reads lower s t → (is_small (first s) || is_capital (first s)) ≡ true
lower-letter {s} p = or_left (is_small (first s)) _ (lower-small p)

-- what begins with a letter
pub letter-solid : (s : List ℕ) → (is_small (first s) || is_capital (first s)) ≡ true → is_blank (first s) ≡ false
letter-solid s e = name-solid (first s) (letter-name (first s) e)

pub letter-some : (s : List ℕ) → (is_small (first s) || is_capital (first s)) ≡ true → 0 < length s
letter-some [] e = let h = letter-high 0 e in absurd (omega arith)
letter-some (b ∷ s) e = omega arith

pub front-spelt : (s : List ℕ) → (is_small (first s) || is_capital (first s)) ≡ true → Spelt (front s)
front-spelt s e = record { all = front-all s; letter = rw (first-front s (letter-name (first s) e)) e }

-- ---- marks

pub data Marked (m : ℕ) : List ℕ → List ℕ → Type 0 where
  marked : {s t : List ℕ} → Reads blanks s t → Marked m (m ∷ s) t

pub mark-back : {m : ℕ} {s t : List ℕ} → Reads (mark m) s t → Marked m s t
mark-back {m} (read_then (read_byte {b = b} e) r) = rw (one_byte m b e) (marked r)

pub mark-next : {m : ℕ} {s t : List ℕ} → Marked m s t → is_blank (first t) ≡ false → next s ≡ t
mark-next (marked r) h = sym (blanks-skip r h)

pub mark-at : {m : ℕ} {s t : List ℕ} → Marked m s t → first s ≡ m
mark-at (marked r) = refl

pub shorter : {x : Form} {s t : List ℕ} → Reads x s t → length t ≤ length s
shorter read_none = omega arith
shorter (read_byte e) = omega arith
shorter (read_then p q) = let a = shorter p in let b = shorter q in omega arith
shorter (read_left p) = shorter p
shorter (read_right p) = shorter p
shorter read-end = omega arith
shorter (read_more p q) = let a = shorter p in let b = shorter q in omega arith

pub mark-shorter : {m : ℕ} {s t : List ℕ} → Marked m s t → length t < length s
mark-shorter (marked r) = let a = shorter r in omega arith

pub solid-at : (s : List ℕ) (m : ℕ) → first s ≡ m → is_name m ≡ false → is_blank m ≡ false → Solid s
solid-at s m e f g = record { name = ap is_name e ∙ f; blank = ap is_blank e ∙ g }

-- ---- what was read, and the text behind it

pub record Follow {A : Type 0} (P : A → Type 0) (g : Got A) (t : List ℕ) : Type 0 where
  pub comes : g.rest ≡ t
  pub holds : P g.value

module _ {A : Type 0} (read : Reader A) (P : A → Type 0) (mark : ℕ) where
  pub row-stop : (n : ℕ) (s t : List ℕ) → Follow P (read s) t → (first t ≡ mark → ⊥) → Follow (Each P) (row_for (suc n) read mark s) t
  unfolding row_for
  row-stop n s t w h =
      let e : eqb (first (read s).rest) mark ≡ false = ap (λ (u : List ℕ). eqb (first u) mark) w.comes ∙ ne_eqb (first t) mark h in
      rw e (record { comes = w.comes; holds = (w.holds, tt) })

  pub row_more : (n : ℕ) (s m v t : List ℕ) → Follow P (read s) m → first m ≡ mark → next m ≡ v → Follow (Each P) (row_for n read mark v) t → Follow (Each P) (row_for (suc n) read mark s) t
  unfolding row_for
  row_more n s m v t w h k f =
      let e : eqb (first (read s).rest) mark ≡ true = ap (λ (u : List ℕ). eqb (first u) mark) w.comes ∙ eq-eqb (first m) mark h in
      let x : next (read s).rest ≡ v = ap next w.comes ∙ k in
      rw (e, x) (record { comes = f.comes; holds = (w.holds, f.holds) })

-- ---- items in brackets

pub comma-solid : (s : List ℕ) → first s ≡ 44 → Solid s
unfolding is_name is_small is_capital is_blank
comma-solid s e = record { name = ap is_name e; blank = ap is_blank e }

pub close-solid : (s : List ℕ) → first s ≡ 41 → Solid s
unfolding is_name is_small is_capital is_blank
close-solid s e = record { name = ap is_name e; blank = ap is_blank e }

pub open-solid : (s : List ℕ) → first s ≡ 40 → Solid s
unfolding is_name is_small is_capital is_blank
open-solid s e = record { name = ap is_name e; blank = ap is_blank e }

module _ {A : Type 0} (f : Form) (read : Reader A) (P : A → Type 0) (item : (s t : List ℕ) → Reads f s t → Solid t → Follow P (read s) t) (starts : (s t : List ℕ) → Reads f s t → (is_blank (first s) ≡ false) × (0 < length s)) where
  row-follows : (n : ℕ) {s m t : List ℕ} → Reads f s m → Reads (many (mark 44 then f)) m t → first t ≡ 41 → length s ≤ n → Follow (Each P) (row_for n read 44 s) t
  row-follows zero {s} {m} p q h l = absurd (let x = (starts s m p).1 in omega arith)
  row-follows (suc n) {s} {t = t} p read-end h l = row-stop read P 44 n s t (item s t p (close-solid t h)) (λ e. omega arith)
  row-follows (suc n) {s} {m} {t} p (read_more (read_then {t = v} a b) q) h l =
      let w = mark-back a in
      row_more read P 44 n s m v t (item s m p (comma-solid m (mark-at w))) (mark-at w) (mark-next w (starts v _ b).0)
      (row-follows n b q h (let x = mark-shorter w in let y = shorter p in omega arith))

  brackets-yes : (s v u t : List ℕ) → first s ≡ 40 → next s ≡ v → Follow (Each P) (row read 44 v) u → next u ≡ t → Follow (Each P) (read_brackets read s) t
  unfolding read_brackets
  brackets-yes s v u t e k w h =
      let x : next (row read 44 v).rest ≡ t = ap next w.comes ∙ h in
      rw (eq-eqb (first s) 40 e, k) (record { comes = x; holds = w.holds })

  brackets-no : (s : List ℕ) → (first s ≡ 40 → ⊥) → Follow (Each P) (read_brackets read s) s
  unfolding read_brackets
  brackets-no s h = rw (ne_eqb (first s) 40 h) (record { comes = refl; holds = tt })

  pub brackets-follow : {s t : List ℕ} → Reads (bracketed f) s t → is_blank (first t) ≡ false → (first t ≡ 40 → ⊥) → Follow (Each P) (read_brackets read s) t
  brackets-follow {s} (read_left read_none) h n = brackets-no s n
  brackets-follow {s} {t} (read_right (read_then {t = v} a (read_then b (read_then {t = u} q e)))) h n =
      let w = mark-back a in
      let z = mark-back e in
      brackets-yes s v u t (mark-at w) (mark-next w (starts v _ b).0) (row-follows (length v) b q (mark-at z) (omega arith)) (mark-next z h)

-- what brackets, or none, begin with
pub brackets-start : {f : Form} {s t : List ℕ} (P : ℕ → Type 0) → Reads (bracketed f) s t → P 40 → P (first t) → P (first s)
brackets-start P (read_left read_none) a b = b
brackets-start P (read_right (read_then p q)) a b = let e = mark-at (mark-back p) in rw e a

-- ---- terms and literals

pub term-item : (s t : List ℕ) → Reads term s t → Solid t → Follow Spelt (read_term s) t
unfolding read_term
term-item s t p h = record { comes = term-past p h; holds = front-spelt s (term-letter p) }

pub term-starts : (s t : List ℕ) → Reads term s t → (is_blank (first s) ≡ false) × (0 < length s)
term-starts s t p = let e = term-letter p in (letter-solid s e, letter-some s e)

abbrev pub SaidSpelt : Said → Type 0
SaidSpelt l = Each Spelt (said_terms l)

-- what cannot go on with a literal
pub record Closed (t : List ℕ) : Type 0 where
  pub solid : Solid t
  pub bracket : first t ≡ 40 → ⊥
  pub equality : first t ≡ 61 → ⊥

pub equals-solid : (s : List ℕ) → first s ≡ 61 → Solid s
unfolding is_name is_small is_capital is_blank
equals-solid s e = record { name = ap is_name e; blank = ap is_blank e }

pub terms-solid : {s t : List ℕ} → Reads (bracketed term) s t → Closed t → Solid s × (first s ≡ 61 → ⊥)
terms-solid (read_left read_none) h = (h.solid, h.equality)
terms-solid {s} (read_right (read_then a p)) h = let e = mark-at (mark-back a) in (open-solid s e, λ z. omega arith)

call-follows : (s m t : List ℕ) → past s ≡ m → (first m ≡ 61 → ⊥) → Follow (Each Spelt) (read_brackets read_term m) t → Follow SaidSpelt (read_literal s) t
unfolding read_literal
call-follows s m t e h w =
    let x : eqb (first (past s)) 61 ≡ false = ap (λ (u : List ℕ). eqb (first u) 61) e ∙ ne_eqb (first m) 61 h in
    rw (x, e) (record { comes = w.comes; holds = w.holds })

equation-follows : (s m v t : List ℕ) → past s ≡ m → first m ≡ 61 → next m ≡ v → Spelt (front s) → Follow Spelt (read_term v) t → Follow SaidSpelt (read_literal s) t
unfolding read_literal
equation-follows s m v t e h k p w =
    let x : eqb (first (past s)) 61 ≡ true = ap (λ (u : List ℕ). eqb (first u) 61) e ∙ eq-eqb (first m) 61 h in
    rw (x, e, k) (record { comes = w.comes; holds = (p, (w.holds, tt)) })

pub literal-follows : {s t : List ℕ} → Reads literal s t → Closed t → Follow SaidSpelt (read_literal s) t
literal-follows {s} {t} (read_left (read_then {t = m} p q)) h =
    let w = terms-solid q h in
    call-follows s m t (lower-past p w.0) w.1 (brackets-follow term read_term Spelt term-item term-starts q h.solid.blank h.bracket)
literal-follows {s} {t} (read_right (read_then {t = m} p (read_then {t = v} a q))) h =
    let w = mark-back a in
    equation-follows s m v t (term-past p (equals-solid m (mark-at w))) (mark-at w) (mark-next w (letter-solid v (term-letter q))) (front-spelt s (term-letter p)) (term-item v t q h.solid)

pub literal-letter : {s t : List ℕ} → Reads literal s t → (is_small (first s) || is_capital (first s)) ≡ true
literal-letter (read_left (read_then p q)) = lower-letter p
literal-letter (read_right (read_then p q)) = term-letter p

-- ---- goals

abbrev pub sep : Form
sep = mark 44 or mark 38

-- what cannot go on with a goal
pub record Shut (t : List ℕ) : Type 0 where
  pub closed : Closed t
  pub comma : first t ≡ 44 → ⊥
  pub both : first t ≡ 38 → ⊥

pub closed_at : (s : List ℕ) (m : ℕ) → first s ≡ m → is_name m ≡ false → is_blank m ≡ false → (m ≡ 40 → ⊥) → (m ≡ 61 → ⊥) → Closed s
closed_at s m e f g h k = record { solid = solid-at s m e f g; bracket = λ z. h (sym e ∙ z); equality = λ z. k (sym e ∙ z) }

pub comma-closed : (s : List ℕ) → first s ≡ 44 → Closed s
unfolding is_name is_small is_capital is_blank
comma-closed s e = closed_at s 44 e refl refl (λ z. omega arith) (λ z. omega arith)

pub and-closed : (s : List ℕ) → first s ≡ 38 → Closed s
unfolding is_name is_small is_capital is_blank
and-closed s e = closed_at s 38 e refl refl (λ z. omega arith) (λ z. omega arith)

abbrev pub StageSpelt : List Said → Type 0
StageSpelt st = Each SaidSpelt st

abbrev pub GoalSpelt : List (List Said) → Type 0
GoalSpelt g = Each StageSpelt g

-- a stage goes up to the end of the goal, or up to `&`
data StageFollow (g : Got (List Said)) (s t : List ℕ) : Type 0 where
  to_end : Follow StageSpelt g t → StageFollow g s t
  to-and : {u v m : List ℕ} → Follow StageSpelt g u → first u ≡ 38 → next u ≡ v → Reads literal v m → Reads (many (sep then literal)) m t → length v < length s → StageFollow g s t

stage-more : (n : ℕ) (s m v t : List ℕ) → Follow SaidSpelt (read_literal s) m → first m ≡ 44 → next m ≡ v → length v < length s → StageFollow (row_for n read_literal 44 v) v t → StageFollow (row_for (suc n) read_literal 44 s) s t
stage-more n s m v t w h k l (to_end f) = to_end (row_more read_literal SaidSpelt 44 n s m v t w h k f)
stage-more n s m v t w h k l (to-and {u = u} f a b c d e) = to-and (row_more read_literal SaidSpelt 44 n s m v u w h k f) a b c d (omega arith)

stage-follows : (n : ℕ) {s m t : List ℕ} → Reads literal s m → Reads (many (sep then literal)) m t → Shut t → length s ≤ n → StageFollow (row_for n read_literal 44 s) s t
stage-follows zero {s} p q h l = absurd (let x = letter-some s (literal-letter p) in omega arith)
stage-follows (suc n) {s} {t = t} p read-end h l = to_end (row-stop read_literal SaidSpelt 44 n s t (literal-follows p h.closed) h.comma)
stage-follows (suc n) {s} {m} {t} p (read_more (read_then {t = v} (read_left a) b) q) h l =
    let w = mark-back a in
    let y = shorter p in
    let x = mark-shorter w in
    stage-more n s m v t (literal-follows p (comma-closed m (mark-at w))) (mark-at w) (mark-next w (letter-solid v (literal-letter b))) (omega arith) (stage-follows n b q h (omega arith))
stage-follows (suc n) {s} {m} {t} p (read_more (read_then {t = v} (read_right a) b) q) h l =
    let w = mark-back a in
    let y = shorter p in
    let x = mark-shorter w in
    let e = mark-at w in
    to-and (row-stop read_literal SaidSpelt 44 n s m (literal-follows p (and-closed m e)) (λ z. omega arith)) e (mark-next w (letter-solid v (literal-letter b))) b q (omega arith)

goal-for : (n : ℕ) {s m t : List ℕ} → Reads literal s m → Reads (many (sep then literal)) m t → Shut t → length s ≤ n → Follow GoalSpelt (row_for n (row read_literal 44) 38 s) t
goal-for zero {s} p q h l = absurd (let x = letter-some s (literal-letter p) in omega arith)
goal-for (suc n) {s} {m} {t} p q h l = go (stage-follows (length s) p q h (omega arith)) (λ v k a b c. goal-for n {s = v} {m = k} a b h c)
  where
    go : StageFollow (row read_literal 44 s) s t → ((v k : List ℕ) → Reads literal v k → Reads (many (sep then literal)) k t → length v ≤ n → Follow GoalSpelt (row_for n (row read_literal 44) 38 v) t) → Follow GoalSpelt (row_for (suc n) (row read_literal 44) 38 s) t
    go (to_end f) more = row-stop (row read_literal 44) StageSpelt 38 n s t f h.both
    go (to-and {u = u} {v} {m = k} f a b c d e) more = row_more (row read_literal 44) StageSpelt 38 n s u v t f a b (more v k c d (omega arith))

pub goal-follows : {s t : List ℕ} → Reads goal s t → Shut t → Follow GoalSpelt (read_goal s) t
unfolding read_goal
goal-follows {s} (read_then p q) h = goal-for (length s) p q h (omega arith)

pub goal-letter : {s t : List ℕ} → Reads goal s t → (is_small (first s) || is_capital (first s)) ≡ true
goal-letter (read_then p q) = literal-letter p
