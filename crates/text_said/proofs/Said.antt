-- THE THEOREMS: a clause text says what is read off it, and nothing else.
use mathlib.Core.Path.{◌∙◌, ◌≡◌, ap, sym}
use mathlib.Core.Logic.{◌↔◌}
use mathlib.Core.Bool.{Bool, false, true}
use mathlib.Core.List.{List}
use Prim.Native.Nat.{◌<◌, ◌≤◌, suc, zero, ℕ}
use lib.ListN.{length}
use native.Mathlib.Omega.{arith}
use Rattle.spell.specs.Grammar.{ClauseText}
use Rattle.text_back.proofs.Lines.{lines_none, lines-one, Stops, stops-46}
use Rattle.text_forth.proofs.Followed.{arrow-at, arrow-back, arrow-behind, body-solid, clause-letter, clause-shorter, clauses-no-mode, goal-no-clause, goal-no-mode, goal-solid, is-clause, is-mode-line, mode-less, mode-solid}
use Rattle.text_forth.proofs.Follows.{blanks-skip, letter-solid, mark-at, mark-back}
use Rattle.text_names.specs.Bytes.{first, is_blank, skip}
use Rattle.text_program.specs.Source.{behind_arrow, cons_got, got, is_clause, is_mode_line, lines, lines_for, ModeLine, read_body, read_clause, Reader, read_mode_line, Said, SaidClause, Source, source_of}
use Rattle.text_said.proofs.Lines.{body-once, clause-once, mode-line-once}
use Rattle.text_said.proofs.Somehow.{text_says, text-told, TextTold}
use Rattle.text_said.proofs.Spelled.{body_spelled, clause-spelled, clauses-spelled, mode-line-spelled, says-text}
use Rattle.text_said.specs.Saying.{a_goal_line, a_line, a_text, no_line, Saying, SaysClause, SaysGoalLine, SaysLines, SaysModeLine, SaysText}

-- ---- lines of a sort

module _ {A : Type 0} (Line : Saying A) (solid : (s : List ℕ) (x : A) (t : List ℕ) → Line s x t → is_blank (first s) ≡ false) where
  lines-solid : {s u : List ℕ} {xs : List A} → SaysLines Line s xs u → is_blank (first u) ≡ false → is_blank (first s) ≡ false
  lines-solid no_line h = h
  lines-solid {s} (a_line {t = t} {x = x} w p) h = solid s x t w

  lines-once : (is : List ℕ → Bool) (read : Reader A) →
      ((s : List ℕ) (x : A) (t : List ℕ) → Line s x t → is s ≡ true) →
      ((s : List ℕ) (x : A) (t : List ℕ) → Line s x t → is_blank (first t) ≡ false → read s ≡ got x t) →
      ((s : List ℕ) (x : A) (t : List ℕ) → Line s x t → length t < length s) →
      (n : ℕ) {s u : List ℕ} {xs : List A} → SaysLines Line s xs u → is u ≡ false → is_blank (first u) ≡ false → length s ≤ n → lines_for n is read s ≡ got xs u
  lines-once is read own line less n {s} no_line e h l = lines_none is read n s e
  lines-once is read own line less zero {s} (a_line {t = t} {x = x} w p) e h l = absurd (let i = less s x t w in omega arith)
  lines-once is read own line less (suc n) {s} {u} (a_line {t = t} {x = x} {xs = xs} w p) e h l =
      lines-one is read n s t x (own s x t w) (line s x t w (lines-solid p h)) ∙ ap (cons_got x) (lines-once is read own line less n p e h (let i = less s x t w in omega arith))

mode-starts-solid : (s : List ℕ) (m : ModeLine) (t : List ℕ) → SaysModeLine s m t → is_blank (first s) ≡ false
mode-starts-solid s m t w = mode-solid (mode-line-spelled w)

modes-once : {s u : List ℕ} {ms : List ModeLine} → SaysLines SaysModeLine s ms u → is_mode_line u ≡ false → is_blank (first u) ≡ false → lines is_mode_line read_mode_line s ≡ got ms u
modes-once {s} w e h =
    lines-once SaysModeLine mode-starts-solid is_mode_line read_mode_line (λ x m y z. is-mode-line (mode-line-spelled z)) mode-line-once (λ x m y z. mode-less (mode-line-spelled z)) (length s) w e h (omega arith)

clause-starts-solid : (s : List ℕ) (c : SaidClause) (t : List ℕ) → SaysClause s c t → is_blank (first s) ≡ false
clause-starts-solid s c t w = letter-solid s (clause-letter (clause-spelled w))

clauses-once : {s u : List ℕ} {cs : List SaidClause} → SaysLines SaysClause s cs u → is_clause u ≡ false → is_blank (first u) ≡ false → lines is_clause read_clause s ≡ got cs u
clauses-once {s} w e h =
    lines-once SaysClause clause-starts-solid is_clause read_clause (λ x c y z. is-clause (clause-spelled z)) clause-once (λ x c y z. clause-shorter (clause-spelled z)) (length s) w e h (omega arith)

-- ---- all of it

goal-line-at : {s t : List ℕ} {g : List (List Said)} → SaysGoalLine s g t → first s ≡ 60
goal-line-at (a_goal_line a p e) = arrow-at (arrow-back a)

goal-line-once : {s t : List ℕ} {g : List (List Said)} → SaysGoalLine s g t → (read_body (behind_arrow s)).value ≡ g
goal-line-once (a_goal_line {u = w} a p e) =
    let c = mark-at (mark-back e) in
    let o : Stops (first w) = rw c stops-46 in
    let k = arrow-behind (arrow-back a) (body-solid (body_spelled p) o) in
    rw (k, body-once p o)

source-reads : (s a b c : List ℕ) (ms : List ModeLine) (cs : List SaidClause) (g : List (List Said)) → skip s ≡ a → lines is_mode_line read_mode_line a ≡ got ms b → lines is_clause read_clause b ≡ got cs c → (read_body (behind_arrow c)).value ≡ g →
    source_of s ≡ record { modes = ms; clauses = cs; goal = g }
unfolding source_of
source-reads s a b c ms cs g e m k w = rw (e, m, k, w)

-- a text says one thing only: what is read off it
pub says-once : {s : List ℕ} {p : Source} → SaysText s p → p ≡ source_of s
says-once {s} (a_text {t = a} {u = b} {v = c} {ms = ms} {cs = cs} {g = g} r m k w) =
    let e = goal-line-at w in
    let h = goal-solid c e in
    let l = lines-solid SaysClause clause-starts-solid k h in
    sym (source-reads s a b c ms cs g (sym (blanks-skip r (lines-solid SaysModeLine mode-starts-solid m l)))
    (modes-once m (clauses-no-mode (clauses-spelled k) (goal-no-mode c e)) l) (clauses-once k (goal-no-clause c e) h) (goal-line-once w))

told-source : {s : List ℕ} → TextTold s → SaysText s (source_of s)
told-source (text-told w) = rw (says-once w) at w

-- what is spelled right says what is read off it
pub says-source : (s : List ℕ) → ClauseText s → SaysText s (source_of s)
says-source s c = told-source (text_says s c)

-- both, and that what says something is spelled right
pub says-exactly : (s : List ℕ) (p : Source) → SaysText s p ↔ (ClauseText s × (p ≡ source_of s))
says-exactly s p = (λ w. (says-text w, says-once w), λ c. rw c.1 (says-source s c.0))
