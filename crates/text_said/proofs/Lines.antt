-- Lines: what is said is what is read.
use mathlib.Core.Path.{◌∙◌, ◌≡◌, ap, refl}
use mathlib.Core.Bool.{◌||◌, Bool, cond, false, true}
use mathlib.Core.List.{[], ◌++◌, List}
use Prim.Native.Nat.{ℕ}
use lib.Dec.{eqb}
use borrow.Author.Tests.{eq-eqb, ne_eqb}
use native.Mathlib.Omega.{arith}
use Rattle.spell.specs.Forms.{read_then, Reads}
use Rattle.spell.specs.Grammar.{blank, blanks, mark}
use Rattle.text_back.proofs.Begin.{letter-high}
use Rattle.text_back.proofs.Lines.{Stops}
use Rattle.text_forth.proofs.Followed.{arrow-at, arrow-back, arrow-behind, body-solid, clause-past, colon-shut, end-next, end-stops, head-facts, head-no-open, mode-end, mode-name, mode-past, mode-starts, name-facts, name-past, stops-shut}
use Rattle.text_forth.proofs.Follows.{goal-letter, letter-solid, mark-at, mark-back, mark-next, shorter, Solid}
use Rattle.text_names.specs.Bytes.{first, front, is_blank, is_capital, is_small, next, past}
use Rattle.text_names.specs.Names.{Name}
use Rattle.text_program.specs.Source.{behind_arrow, got, ModeLine, mode_word, read_body, read_brackets, read_clause, read_goal, read_halves, read_mode, read_mode_line, read_term, Said, SaidClause}
use Rattle.text_said.proofs.Items.{Begins, brackets-once, goal-once, lower-front, terms-once}
use Rattle.text_said.proofs.Spelled.{body_spelled, end-spelled, goal-spelled, halves-spelled, lower-spelled, mode-spelled, modes-spelled, terms-spelled}
use Rattle.text_said.specs.Saying.{a_body, a_clause, a_goal, a_guard, a_mode_line, a_semicolon, a_stop, an_input, an_output, no_goal, no_halves, SaysBody, SaysBrackets, SaysClause, SaysEnd, SaysHalves, SaysLower, SaysMode, SaysModeLine}

-- ---- goals that may be missing

body-none : (s : List ℕ) → Stops (first s) → read_body s ≡ got [] s
unfolding read_body
body-none s p = rw p.mark

body-some : (s : List ℕ) → (is_small (first s) || is_capital (first s)) ≡ true → read_body s ≡ read_goal s
unfolding read_body
body-some s e = let h = letter-high (first s) e in rw (ne_eqb (first s) 46 (λ z. omega arith), ne_eqb (first s) 59 (λ z. omega arith))

pub body-once : {s t : List ℕ} {g : List (List Said)} → SaysBody s g t → Stops (first t) → read_body s ≡ got g t
body-once {s} no_goal p = body-none s p
body-once {s} {t} (a_goal w) p = body-some s (goal-letter (goal-spelled w)) ∙ goal-once w (stops-shut t p)

-- ---- guard and body

halves-none : (s : List ℕ) → (first s ≡ 60 → ⊥) → read_halves s ≡ got (record { guard = []; body = [] }) s
unfolding read_halves
halves-none s h = rw (ne_eqb (first s) 60 h)

halves-plain : (s v t : List ℕ) (b : List (List Said)) → first s ≡ 60 → behind_arrow s ≡ v → read_goal v ≡ got b t → (first t ≡ 58 → ⊥) → read_halves s ≡ got (record { guard = []; body = b }) t
unfolding read_halves
halves-plain s v t b e k w h = rw (eq-eqb (first s) 60 e, k, w, ne_eqb (first t) 58 h)

halves-both : (s v m u t : List ℕ) (g b : List (List Said)) → first s ≡ 60 → behind_arrow s ≡ v → read_goal v ≡ got g m → first m ≡ 58 → next m ≡ u → read_body u ≡ got b t → read_halves s ≡ got (record { guard = g; body = b }) t
unfolding read_halves
halves-both s v m u t g b e k w h n f = rw (eq-eqb (first s) 60 e, k, w, eq-eqb (first m) 58 h, n, f)

halves-once : {s t : List ℕ} {g b : List (List Said)} → SaysHalves s g b t → Stops (first t) → read_halves s ≡ got (record { guard = g; body = b }) t
halves-once {s} no_halves p = halves-none s p.none.1
halves-once {s} {t} (a_body {t = v} {b = b} a w) p =
    let z = arrow-back a in
    halves-plain s v t b (arrow-at z) (arrow-behind z (letter-solid v (goal-letter (goal-spelled w)))) (goal-once w (stops-shut t p)) p.none.0
halves-once {s} {t} (a_guard {t = v} {u = m} {v = u} {g = g} {b = b} a w c q) p =
    let z = arrow-back a in
    let k = mark-back c in
    halves-both s v m u t g b (arrow-at z) (arrow-behind z (letter-solid v (goal-letter (goal-spelled w)))) (goal-once w (colon-shut m (mark-at k))) (mark-at k)
    (mark-next k (body-solid (body_spelled q) p)) (body-once q p)

-- ---- clauses

end-once : {s t : List ℕ} {e : Bool} → SaysEnd s e t → eqb (first s) 59 ≡ e
end-once (a_stop a) = ap (λ (b : ℕ). eqb b 59) (mark-at (mark-back a))
end-once (a_semicolon a) = ap (λ (b : ℕ). eqb b 59) (mark-at (mark-back a))

clause-reads : (s m u w t : List ℕ) (x : Name) (xs : List Name) (g b : List (List Said)) (e : Bool) →
    front s ≡ x → past s ≡ m → read_brackets read_term m ≡ got xs u → read_halves u ≡ got (record { guard = g; body = b }) w → eqb (first w) 59 ≡ e → next w ≡ t →
    read_clause s ≡ got (record { name = x; terms = xs; guard = g; body = b; semicolon = e }) t
unfolding read_clause
clause-reads s m u w t x xs g b e f p q h o n = rw (p, f, q, h, o, n)

pub clause-once : (s : List ℕ) (c : SaidClause) (t : List ℕ) → SaysClause s c t → is_blank (first t) ≡ false → read_clause s ≡ got c t
clause-once s c t (a_clause {t = m} {u = u} {v = w} {x = x} {xs = xs} {g = g} {b = b} {e = e} p q h k) o =
    let a = lower-spelled p in
    let r = terms-spelled q in
    let l = halves-spelled h in
    let d = end-spelled k in
    let n = name-facts a r l d in
    clause-reads s m u w t x xs g b e (lower-front p (record { name = n.0; blank = n.1 })) (clause-past a r l d)
    (terms-once q (head-facts a r l d).1 (head-no-open a r l d)) (halves-once h (end-stops d)) (end-once k) (end-next d o)

-- ---- mode lines

mode-reads : (s t : List ℕ) (b : ℕ) → first s ≡ b → next s ≡ t → read_mode s ≡ got (cond (eqb b 94) 1 0) t
mode-reads s t b e n = rw (e, n)

mode-once : (s : List ℕ) (m : ℕ) (t : List ℕ) → SaysMode s m t → Solid t → read_mode s ≡ got m t
mode-once s m t (an_input a) h = let z = mark-back a in mode-reads s t 63 (mark-at z) (mark-next z h.blank)
mode-once s m t (an_output a) h = let z = mark-back a in mode-reads s t 94 (mark-at z) (mark-next z h.blank)

mode-begins : (s : List ℕ) (m : ℕ) (t : List ℕ) → SaysMode s m t → Begins s t
mode-begins s m t w = let r = mode-spelled w in let (b, l) = mode-starts s t r in (b, l, shorter r)

mode-line-reads : (s z m u t : List ℕ) (x : Name) (ms : List ℕ) → past s ≡ z → past z ≡ m → front z ≡ x → read_brackets read_mode m ≡ got ms u → next u ≡ t →
    read_mode_line s ≡ got (record { name = x; modes = ms }) t
unfolding read_mode_line
mode-line-reads s z m u t x ms p q f b n = rw (p, q, f, b, n)

module _ {x y z m u t : List ℕ} {n : Name} {ms : List ℕ} (bl : Reads blank x y) (bs : Reads blanks y z) (lo : SaysLower z n m) (br : SaysBrackets SaysMode m ms u) (mk : Reads (mark 46) u t) where
  mode-line-by : is_blank (first t) ≡ false → read_mode_line (mode_word ++ x) ≡ got (record { name = n; modes = ms }) t
  mode-line-by h =
      let l = lower-spelled lo in
      let b = modes-spelled br in
      let o = mode-name refl bl bs l b mk in
      let k = mark-back mk in
      let c = mark-at k in
      mode-line-reads (mode_word ++ x) z m u t n ms (mode-past refl bl bs l b mk) (name-past refl bl bs l b mk) (lower-front lo (record { name = o.0; blank = o.1 }))
      (brackets-once SaysMode read_mode mode-once mode-begins br (mode-end refl bl bs l b mk).1 (λ e. omega arith)) (mark-next k h)

pub mode-line-once : (s : List ℕ) (m : ModeLine) (t : List ℕ) → SaysModeLine s m t → is_blank (first t) ≡ false → read_mode_line s ≡ got m t
mode-line-once s m t (a_mode_line (read_then bl bs) lo br mk) h = mode-line-by bl bs lo br mk h
