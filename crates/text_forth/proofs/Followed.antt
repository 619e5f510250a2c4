-- Lines and the whole text: the reader goes as the grammar does.
use mathlib.Core.Path.{◌∙◌, ◌≡◌, ap, refl, sym}
use mathlib.Core.Bool.{◌&&◌, ◌||◌, Bool, false, true}
use mathlib.Core.List.{[], ◌++◌, ◌∷◌, List}
use Prim.Native.Nat.{◌<◌, ◌≤◌, suc, zero, ℕ}
use lib.Dec.{eqb}
use lib.ListN.{length}
use borrow.Author.Tests.{eq-eqb, ne_eqb}
use native.Mathlib.Omega.{arith}
use Rattle.std.proofs.lemmas.Bool.{false_from_ne_true}
use Rattle.parlog.proofs.Bools.{never}
use Rattle.parlog.specs.Orders.{Each}
use Rattle.spell.specs.Forms.{◌or◌, ◌then◌, Form, many, read_byte, read-end, read_left, read_more, read_none, read_right, read_then, Reads}
use Rattle.spell.specs.Grammar.{arrow, blank, blanks, bracketed, byte, clause, ClauseText, goal, lower, mark, mode_line, perhaps, term, text}
use Rattle.text_back.proofs.Begin.{back-of, front-lower, front-none, front_of, letter-high, Lower, small_low, small-name, Spelt, word-all}
use Rattle.text_back.proofs.Lines.{Stops, stops-46, stops-59}
use Rattle.text_forth.proofs.Follows.{B, blank-first, blanks-skip, brackets-follow, brackets-start, Closed, closed_at, First, first-blank, Follow, goal-follows, goal-letter, GoalSpelt, letter-solid, lower-letter, lower-past, lower-small, mark-at, mark-back, mark-next, mark-shorter, Marked, marked, one, one_byte, shorter, Shut, Solid, term-item, term-starts}
use Rattle.text_names.proofs.Looked.{same_self}
use Rattle.text_names.specs.Bytes.{first, front, is_blank, is_capital, is_name, is_small, next, past, skip}
use Rattle.text_names.specs.Names.{same_name}
use Rattle.text_program.specs.Source.{behind_arrow, Halves, is_clause, is_mode_line, lines, lines_for, ModeLine, mode_word, read_body, read_brackets, read_clause, Reader, read_goal, read_halves, read_mode, read_mode_line, read_term, SaidClause, Source, source_of}

-- ---- ends of lines

stops-closed : (t : List ℕ) → Stops (first t) → Closed t
stops-closed t p = let l = p.low in record { solid = record { name = p.name; blank = p.blank }; bracket = λ e. omega arith; equality = p.none.2 }

pub stops-shut : (t : List ℕ) → Stops (first t) → Shut t
stops-shut t p = let l = p.low in record { closed = stops-closed t p; comma = λ e. omega arith; both = λ e. omega arith }

pub colon-shut : (t : List ℕ) → first t ≡ 58 → Shut t
unfolding is_name is_small is_capital is_blank
colon-shut t e = record { closed = closed_at t 58 e refl refl (λ z. omega arith) (λ z. omega arith); comma = λ z. omega arith; both = λ z. omega arith }

pub end-stops : {s t : List ℕ} → Reads (mark 46 or mark 59) s t → Stops (first s)
end-stops (read_left a) = let e = mark-at (mark-back a) in rw e stops-46
end-stops (read_right a) = let e = mark-at (mark-back a) in rw e stops-59

pub end-next : {s t : List ℕ} → Reads (mark 46 or mark 59) s t → is_blank (first t) ≡ false → next s ≡ t
end-next (read_left a) h = mark-next (mark-back a) h
end-next (read_right a) h = mark-next (mark-back a) h

end-shorter : {s t : List ℕ} → Reads (mark 46 or mark 59) s t → length t < length s
end-shorter (read_left a) = mark-shorter (mark-back a)
end-shorter (read_right a) = mark-shorter (mark-back a)

-- ---- goals that may be missing

body-none : (s : List ℕ) → Stops (first s) → Follow GoalSpelt (read_body s) s
unfolding read_body
body-none s p = rw p.mark (record { comes = refl; holds = tt })

body-some : (s t : List ℕ) → (is_small (first s) || is_capital (first s)) ≡ true → Follow GoalSpelt (read_goal s) t → Follow GoalSpelt (read_body s) t
unfolding read_body
body-some s t e w = let h = letter-high (first s) e in rw (ne_eqb (first s) 46 (λ z. omega arith), ne_eqb (first s) 59 (λ z. omega arith)) w

body-follows : {s t : List ℕ} → Reads (perhaps goal) s t → Stops (first t) → Follow GoalSpelt (read_body s) t
body-follows {s} (read_left read_none) p = body-none s p
body-follows {s} {t} (read_right g) p = body-some s t (goal-letter g) (goal-follows g (stops-shut t p))

pub body-solid : {s t : List ℕ} → Reads (perhaps goal) s t → Stops (first t) → is_blank (first s) ≡ false
body-solid (read_left read_none) p = p.blank
body-solid {s} (read_right g) p = letter-solid s (goal-letter g)

-- ---- arrows

pub data Arrow : List ℕ → List ℕ → Type 0 where
  arrow-of : {u t : List ℕ} → Reads blanks u t → Arrow (60 ∷ 45 ∷ u) t

arrow-by : {s m t : List ℕ} → s ≡ 60 ∷ m → Marked 45 m t → Arrow s t
arrow-by e (marked r) = rw e (arrow-of r)

pub byte-back : {m : ℕ} {s t : List ℕ} → Reads (byte m) s t → s ≡ m ∷ t
byte-back {m} {t = t} (read_byte {b = b} e) = ap (λ (x : ℕ). x ∷ t) (one_byte m b e)

pub arrow-back : {s t : List ℕ} → Reads arrow s t → Arrow s t
arrow-back (read_then p q) = arrow-by (byte-back p) (mark-back q)

pub arrow-at : {s t : List ℕ} → Arrow s t → first s ≡ 60
arrow-at (arrow-of r) = refl

pub arrow-behind : {s t : List ℕ} → Arrow s t → is_blank (first t) ≡ false → behind_arrow s ≡ t
arrow-behind (arrow-of r) h = sym (blanks-skip r h)

-- ---- halves

pub record HalvesSpelt (x : Halves) : Type 0 where
  pub guard : GoalSpelt x.guard
  pub body : GoalSpelt x.body

halves-none : (s : List ℕ) → (first s ≡ 60 → ⊥) → Follow HalvesSpelt (read_halves s) s
unfolding read_halves
halves-none s h = rw (ne_eqb (first s) 60 h) (record { comes = refl; holds = record { guard = tt; body = tt } })

halves-plain : (s v t : List ℕ) → first s ≡ 60 → behind_arrow s ≡ v → Follow GoalSpelt (read_goal v) t → (first t ≡ 58 → ⊥) → Follow HalvesSpelt (read_halves s) t
unfolding read_halves
halves-plain s v t e k w h =
    let x : eqb (first (read_goal v).rest) 58 ≡ false = ap (λ (u : List ℕ). eqb (first u) 58) w.comes ∙ ne_eqb (first t) 58 h in
    rw (eq-eqb (first s) 60 e, k, x) (record { comes = w.comes; holds = record { guard = tt; body = w.holds } })

halves-both : (s v m u t : List ℕ) → first s ≡ 60 → behind_arrow s ≡ v → Follow GoalSpelt (read_goal v) m → first m ≡ 58 → next m ≡ u → Follow GoalSpelt (read_body u) t → Follow HalvesSpelt (read_halves s) t
unfolding read_halves
halves-both s v m u t e k w h n f =
    let x : eqb (first (read_goal v).rest) 58 ≡ true = ap (λ (z : List ℕ). eqb (first z) 58) w.comes ∙ eq-eqb (first m) 58 h in
    let y : next (read_goal v).rest ≡ u = ap next w.comes ∙ n in
    rw (eq-eqb (first s) 60 e, k, x, y) (record { comes = f.comes; holds = record { guard = w.holds; body = f.holds } })

abbrev pub halves_form : Form
halves_form = perhaps (arrow then goal then perhaps (mark 58 then perhaps goal))

halves-follow : {s t : List ℕ} → Reads halves_form s t → Stops (first t) → Follow HalvesSpelt (read_halves s) t
halves-follow {s} (read_left read_none) p = halves-none s p.none.1
halves-follow {s} {t} (read_right (read_then {t = v} a (read_then g (read_left read_none)))) p =
    let w = arrow-back a in
    halves-plain s v t (arrow-at w) (arrow-behind w (letter-solid v (goal-letter g))) (goal-follows g (stops-shut t p)) p.none.0
halves-follow {s} {t} (read_right (read_then {t = v} a (read_then {t = m} g (read_right (read_then {t = u} c b))))) p =
    let w = arrow-back a in
    let z = mark-back c in
    halves-both s v m u t (arrow-at w) (arrow-behind w (letter-solid v (goal-letter g))) (goal-follows g (colon-shut m (mark-at z))) (mark-at z) (mark-next z (body-solid b p)) (body-follows b p)

halves-start : {s t : List ℕ} (P : ℕ → Type 0) → Reads halves_form s t → P 60 → P (first t) → P (first s)
halves-start P (read_left read_none) a b = b
halves-start P (read_right (read_then p q)) a b = let e = arrow-at (arrow-back p) in rw e a

-- ---- clauses

pub record ClauseSpelt (c : SaidClause) : Type 0 where
  pub terms : Each Spelt c.terms
  pub guard : GoalSpelt c.guard
  pub body : GoalSpelt c.body

clause-reads : (s m u w t : List ℕ) → past s ≡ m → Follow (Each Spelt) (read_brackets read_term m) u → Follow HalvesSpelt (read_halves u) w → next w ≡ t → Follow ClauseSpelt (read_clause s) t
unfolding read_clause
clause-reads s m u w t e h g n =
    let x = h.comes in
    let y : next (read_halves u).rest ≡ t = ap next g.comes ∙ n in
    rw (e, x) (record { comes = y; holds = record { terms = h.holds; guard = g.holds.guard; body = g.holds.body } })

-- what stands behind the name of a clause
record Behind (m : List ℕ) : Type 0 where
  pub solid : Solid m
  pub no-small : is_small (first m) ≡ false

stop-behind : (q : ℕ) → Stops q → is_small q ≡ false
stop-behind q p = false_from_ne_true (is_small q) (λ e. never (sym p.name ∙ small-name q e))

arrow-facts : (is_name 60 ≡ false) × (is_blank 60 ≡ false) × (is_small 60 ≡ false)
unfolding is_name is_small is_capital is_blank
arrow-facts = (refl, refl, refl)

open-facts : (is_name 40 ≡ false) × (is_blank 40 ≡ false) × (is_small 40 ≡ false)
unfolding is_name is_small is_capital is_blank
open-facts = (refl, refl, refl)

abbrev Mark : ℕ → Type 0
Mark b = (is_name b ≡ false) × (is_blank b ≡ false) × (is_small b ≡ false)

module _ {s m u w t : List ℕ} (a : Reads lower s m) (b : Reads (bracketed term) m u) (c : Reads halves_form u w) (d : Reads (mark 46 or mark 59) w t) where
  stop-facts : Mark (first w)
  stop-facts = let p = end-stops d in (p.name, p.blank, stop-behind (first w) p)

  pub head-facts : Mark (first u)
  head-facts = halves-start Mark c arrow-facts stop-facts

  pub name-facts : Mark (first m)
  name-facts = brackets-start Mark b open-facts head-facts

  pub head-no-open : first u ≡ 40 → ⊥
  head-no-open = halves-start (λ x. x ≡ 40 → ⊥) c (λ e. omega arith) (λ e. let l = (end-stops d).low in omega arith)

  pub clause-past : past s ≡ m
  clause-past = lower-past a (record { name = name-facts.0; blank = name-facts.1 })

  pub clause-goes : is_blank (first t) ≡ false → Follow ClauseSpelt (read_clause s) t
  clause-goes h =
      clause-reads s m u w t clause-past (brackets-follow term read_term Spelt term-item term-starts b head-facts.1 head-no-open) (halves-follow c (end-stops d)) (end-next d h)

  pub clause-no-mode : is_mode_line s ≡ false
  unfolding is_mode_line
  clause-no-mode = rw (clause-past, name-facts.2) (go (same_name (front s) mode_word))
    where
      go : (b : Bool) → (b && false) ≡ false
      go true = refl
      go false = refl

  pub clause-is : is_clause s ≡ true
  unfolding is_clause
  clause-is = let h = small_low (first s) (lower-small a) in rw (ne_eqb (first s) 60 (λ e. omega arith))

pub clause-follows : {s t : List ℕ} → Reads clause s t → is_blank (first t) ≡ false → Follow ClauseSpelt (read_clause s) t
clause-follows (read_then a (read_then b (read_then c d))) h = clause-goes a b c d h

pub no-mode-line : {s t : List ℕ} → Reads clause s t → is_mode_line s ≡ false
no-mode-line (read_then a (read_then b (read_then c d))) = clause-no-mode a b c d

pub is-clause : {s t : List ℕ} → Reads clause s t → is_clause s ≡ true
is-clause (read_then a (read_then b (read_then c d))) = clause-is a b c d

pub clause-letter : {s t : List ℕ} → Reads clause s t → (is_small (first s) || is_capital (first s)) ≡ true
clause-letter (read_then a p) = lower-letter a

pub clause-shorter : {s t : List ℕ} → Reads clause s t → length t < length s
clause-shorter (read_then a (read_then b (read_then c d))) = let x = shorter a in let y = shorter b in let z = shorter c in let w = end-shorter d in omega arith

-- ---- mode lines

abbrev pub ModeSpelt : ModeLine → Type 0
ModeSpelt m = Lower m.name

abbrev Anything : ℕ → Type 0
Anything m = Unit {0}

mode-item : (s t : List ℕ) → Reads (mark 63 or mark 94) s t → Solid t → Follow Anything (read_mode s) t
mode-item s t (read_left a) h = record { comes = mark-next (mark-back a) h.blank; holds = tt }
mode-item s t (read_right a) h = record { comes = mark-next (mark-back a) h.blank; holds = tt }

marked-some : {m : ℕ} {s t : List ℕ} → Marked m s t → is_blank m ≡ false → (is_blank (first s) ≡ false) × (0 < length s)
marked-some (marked r) e = (e, omega arith)

pub mode-starts : (s t : List ℕ) → Reads (mark 63 or mark 94) s t → (is_blank (first s) ≡ false) × (0 < length s)
unfolding is_blank
mode-starts s t (read_left a) = marked-some (mark-back a) refl
mode-starts s t (read_right a) = marked-some (mark-back a) refl

mode-reads : (s z m u t : List ℕ) → past s ≡ z → past z ≡ m → Lower (front z) → Follow (Each Anything) (read_brackets read_mode m) u → next u ≡ t → Follow ModeSpelt (read_mode_line s) t
unfolding read_mode_line
mode-reads s z m u t e f l w n =
    let y : next (read_brackets read_mode m).rest ≡ t = ap next w.comes ∙ n in
    rw (e, f) (record { comes = y; holds = l })

skip-one : {s m : List ℕ} → First B s m → skip s ≡ skip m
unfolding skip
skip-one (one e) = rw e

stop-46 : (s : List ℕ) → first s ≡ 46 → Mark (first s)
unfolding is_name is_small is_capital is_blank
stop-46 s e = rw e (refl, refl, refl)

module _ {s x y z m u t : List ℕ} (is : s ≡ mode_word ++ x) (bl : Reads blank x y) (bs : Reads blanks y z) (lo : Reads lower z m) (br : Reads (bracketed (mark 63 or mark 94)) m u) (mk : Reads (mark 46) u t) where
  pub mode-end : Mark (first u)
  mode-end = stop-46 u (mark-at (mark-back mk))

  pub mode-name : Mark (first m)
  mode-name = brackets-start Mark br open-facts mode-end

  pub mode-past : past s ≡ z
  mode-past =
      let b = blank-first bl in
      ap past is ∙ ap skip (back-of mode_word x word-all (first-blank b)) ∙ skip-one b ∙ sym (blanks-skip bs (letter-solid z (lower-letter lo)))

  pub name-past : past z ≡ m
  name-past = lower-past lo (record { name = mode-name.0; blank = mode-name.1 })

  mode-front : front s ≡ mode_word
  mode-front = ap front is ∙ front_of mode_word x word-all (first-blank (blank-first bl))

  pub mode-is : is_mode_line s ≡ true
  unfolding is_mode_line
  mode-is = rw (mode-front, same_self mode_word, mode-past) (lower-small lo)

  pub mode-goes : is_blank (first t) ≡ false → Follow ModeSpelt (read_mode_line s) t
  mode-goes h =
      mode-reads s z m u t mode-past name-past (front-lower z (lower-small lo))
      (brackets-follow (mark 63 or mark 94) read_mode Anything mode-item mode-starts br mode-end.1 (λ e. let q = mark-at (mark-back mk) in omega arith)) (mark-next (mark-back mk) h)

  pub mode-shorter : length t < length s
  mode-shorter =
      let a = shorter bl in
      let b = shorter bs in
      let c = shorter lo in
      let d = shorter br in
      let e = mark-shorter (mark-back mk) in
      let f : length s ≡ length (mode_word ++ x) = ap (λ (w : List ℕ). length w) is in
      omega arith

pub four_bytes : {s a b c x : List ℕ} → s ≡ 109 ∷ a → a ≡ 111 ∷ b → b ≡ 100 ∷ c → c ≡ 101 ∷ x → s ≡ mode_word ++ x
four_bytes e f g h = e ∙ ap (λ (w : List ℕ). 109 ∷ w) (f ∙ ap (λ (w : List ℕ). 111 ∷ w) (g ∙ ap (λ (w : List ℕ). 100 ∷ w) h))

pub mode-follows : {s t : List ℕ} → Reads mode_line s t → is_blank (first t) ≡ false → Follow ModeSpelt (read_mode_line s) t
mode-follows (read_then a (read_then b (read_then c (read_then d (read_then (read_then bl bs) (read_then lo (read_then br mk))))))) h =
    mode-goes (four_bytes (byte-back a) (byte-back b) (byte-back c) (byte-back d)) bl bs lo br mk h

pub is-mode-line : {s t : List ℕ} → Reads mode_line s t → is_mode_line s ≡ true
is-mode-line (read_then a (read_then b (read_then c (read_then d (read_then (read_then bl bs) (read_then lo (read_then br mk))))))) =
    mode-is (four_bytes (byte-back a) (byte-back b) (byte-back c) (byte-back d)) bl bs lo br mk

pub mode-less : {s t : List ℕ} → Reads mode_line s t → length t < length s
mode-less (read_then a (read_then b (read_then c (read_then d (read_then (read_then bl bs) (read_then lo (read_then br mk))))))) =
    mode-shorter (four_bytes (byte-back a) (byte-back b) (byte-back c) (byte-back d)) bl bs lo br mk

m-solid : is_blank 109 ≡ false
unfolding is_blank
m-solid = refl

pub mode-solid : {s t : List ℕ} → Reads mode_line s t → is_blank (first s) ≡ false
mode-solid (read_then a p) = let e = byte-back a in rw e m-solid

-- ---- lines of a sort

module _ {A : Type 0} (f : Form) (is : List ℕ → Bool) (read : Reader A) (P : A → Type 0)
    (yes : (s t : List ℕ) → Reads f s t → is s ≡ true)
    (item : (s t : List ℕ) → Reads f s t → is_blank (first t) ≡ false → Follow P (read s) t)
    (solid : (s t : List ℕ) → Reads f s t → is_blank (first s) ≡ false)
    (less : (s t : List ℕ) → Reads f s t → length t < length s) where
  lines-stop : (n : ℕ) (s : List ℕ) → is s ≡ false → Follow (Each P) (lines_for n is read s) s
  unfolding lines_for
  lines-stop zero s e = record { comes = refl; holds = tt }
  lines-stop (suc n) s e = rw e (record { comes = refl; holds = tt })

  lines_more : (n : ℕ) (s t u : List ℕ) → is s ≡ true → Follow P (read s) t → Follow (Each P) (lines_for n is read t) u → Follow (Each P) (lines_for (suc n) is read s) u
  unfolding lines_for
  lines_more n s t u e w g = let x = w.comes in rw (e, x) (record { comes = g.comes; holds = (w.holds, g.holds) })

  pub many-solid : {s u : List ℕ} → Reads (many f) s u → is_blank (first u) ≡ false → is_blank (first s) ≡ false
  many-solid read-end h = h
  many-solid {s} (read_more {t = t} p q) h = solid s t p

  pub lines-follow : (n : ℕ) {s u : List ℕ} → Reads (many f) s u → is u ≡ false → is_blank (first u) ≡ false → length s ≤ n → Follow (Each P) (lines_for n is read s) u
  lines-follow n {s} read-end e h l = lines-stop n s e
  lines-follow zero {s} (read_more {t = t} p q) e h l = absurd (let x = less s t p in omega arith)
  lines-follow (suc n) {s} {u} (read_more {t = t} p q) e h l = lines_more n s t u (yes s t p) (item s t p (many-solid q h)) (lines-follow n q e h (let x = less s t p in omega arith))

-- ---- the goal line, and all of it

pub record SourceSpelt (p : Source) : Type 0 where
  pub modes : Each ModeSpelt p.modes
  pub clauses : Each ClauseSpelt p.clauses
  pub goal : GoalSpelt p.goal

pub goal-no-clause : (s : List ℕ) → first s ≡ 60 → is_clause s ≡ false
unfolding is_clause
goal-no-clause s e = rw e

pub goal-no-mode : (s : List ℕ) → first s ≡ 60 → is_mode_line s ≡ false
unfolding is_mode_line same_name
goal-no-mode s e = rw (front-none s (ap is_name e ∙ arrow-facts.0))

pub goal-solid : (s : List ℕ) → first s ≡ 60 → is_blank (first s) ≡ false
goal-solid s e = ap is_blank e ∙ arrow-facts.1

pub clauses-no-mode : {s u : List ℕ} → Reads (many clause) s u → is_mode_line u ≡ false → is_mode_line s ≡ false
clauses-no-mode read-end e = e
clauses-no-mode (read_more p q) e = no-mode-line p

goal-line-follows : {s v w : List ℕ} → Reads arrow s v → Reads (perhaps goal) v w → Reads (mark 46) w [] → GoalSpelt (read_body (behind_arrow s)).value
goal-line-follows {s} {v} {w} a b c =
    let x = arrow-back a in
    let e = mark-at (mark-back c) in
    let p : Stops (first w) = rw e stops-46 in
    let k = arrow-behind x (body-solid b p) in
    rw k (body-follows b p).holds

source-reads : (s a b c : List ℕ) → skip s ≡ a → Follow (Each ModeSpelt) (lines is_mode_line read_mode_line a) b → Follow (Each ClauseSpelt) (lines is_clause read_clause b) c → GoalSpelt (read_body (behind_arrow c)).value → SourceSpelt (source_of s)
unfolding source_of
source-reads s a b c e m k g = let x = m.comes in let y = k.comes in rw (e, x, y) (record { modes = m.holds; clauses = k.holds; goal = g })

text-reads : (s a b c v w : List ℕ) → Reads blanks s a → Reads (many mode_line) a b → Reads (many clause) b c → Reads arrow c v → Reads (perhaps goal) v w → Reads (mark 46) w [] → SourceSpelt (source_of s)
text-reads s a b c v w p q k l m n =
    let e = arrow-at (arrow-back l) in
    let cs = goal-solid c e in
    let bs = many-solid clause is_clause read_clause ClauseSpelt (λ x y z. is-clause z) (λ x y z h. clause-follows z h) (λ x y z. letter-solid x (clause-letter z)) (λ x y z. clause-shorter z) k cs in
    let top = many-solid mode_line is_mode_line read_mode_line ModeSpelt (λ x y z. is-mode-line z) (λ x y z h. mode-follows z h) (λ x y z. mode-solid z) (λ x y z. mode-less z) q bs in
    source-reads s a b c (sym (blanks-skip p top))
    (lines-follow mode_line is_mode_line read_mode_line ModeSpelt (λ x y z. is-mode-line z) (λ x y z h. mode-follows z h) (λ x y z. mode-solid z) (λ x y z. mode-less z) (length a) q (clauses-no-mode k (goal-no-mode c e)) bs (omega arith))
    (lines-follow clause is_clause read_clause ClauseSpelt (λ x y z. is-clause z) (λ x y z h. clause-follows z h) (λ x y z. letter-solid x (clause-letter z)) (λ x y z. clause-shorter z) (length b) k (goal-no-clause c e) cs (omega arith))
    (goal-line-follows l m n)

-- THE LAW: in a clause text every name begins as it should
pub text-spelt : (s : List ℕ) → ClauseText s → SourceSpelt (source_of s)
unfolding ClauseText text
text-spelt s (read_then {t = a} p (read_then {t = b} q (read_then {t = c} k (read_then {t = v} l (read_then {t = w} m n))))) = text-reads s a b c v w p q k l m n
