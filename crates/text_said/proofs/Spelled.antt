-- What says something is spelled right.
use mathlib.Core.Bool.{Bool}
use mathlib.Core.List.{List}
use Prim.Native.Nat.{ℕ}
use Rattle.spell.specs.Forms.{◌or◌, Form, many, read-end, read_left, read_more, read_none, read_right, read_then, Reads}
use Rattle.spell.specs.Grammar.{bracketed, clause, ClauseText, goal, goal_line, literal, lower, mark, mode_line, name_byte, perhaps, term, text}
use Rattle.text_back.proofs.Spelling.{bracket-reads, byte_reads, Run, run, run_join}
use Rattle.text_forth.proofs.Followed.{halves_form}
use Rattle.text_forth.proofs.Follows.{sep}
use Rattle.text_names.specs.Names.{Name}
use Rattle.text_program.specs.Source.{ModeLine, Said, SaidClause, Source}
use Rattle.text_said.specs.Saying.{a_body, a_byte, a_call, a_clause, a_constant, a_goal, a_goal_line, a_guard, a_line, a_lower, a_mode_line, a_semicolon, a_stop, a_text, a_variable, an_equality, an_input, an_output, in_brackets, last_item, next_item, no_brackets, no_byte, no_goal, no_halves, no_line, Saying, SaysBody, SaysBrackets, SaysBytes, SaysClause, SaysEnd, SaysGoal, SaysGoalLine, SaysHalves, SaysLines, SaysLiteral, SaysLower, SaysMode, SaysModeLine, SaysRow, SaysStage, SaysTerm, SaysText}

-- ---- words

bytes-spelled : {s t : List ℕ} {x : Name} → SaysBytes s x t → Reads (many name_byte) s t
bytes-spelled no_byte = read-end
bytes-spelled (a_byte a p) = read_more a (bytes-spelled p)

pub lower-spelled : {s t : List ℕ} {x : Name} → SaysLower s x t → Reads lower s t
lower-spelled (a_lower a p r) = read_then (read_then a (bytes-spelled p)) r

lower-term : {s t : List ℕ} → Reads lower s t → Reads term s t
lower-term (read_then (read_then p q) r) = read_then (read_then (read_left p) q) r

pub term-spelled : {s t : List ℕ} {x : Name} → SaysTerm s x t → Reads term s t
term-spelled (a_constant w) = lower-term (lower-spelled w)
term-spelled (a_variable a p r) = read_then (read_then (read_right a) (bytes-spelled p)) r

-- ---- items

module _ {A : Type 0} (Item : Saying A) (k : ℕ) (f m : Form) (items : (s : List ℕ) (x : A) (t : List ℕ) → Item s x t → Run f m s t) (marks : (s t : List ℕ) → Reads (mark k) s t → Reads m s t) where
  row-spelled : {s t : List ℕ} {xs : List A} → SaysRow Item k s xs t → Run f m s t
  row-spelled {s} {t} (last_item {x = x} w) = items s x t w
  row-spelled {s} (next_item {t = t} {u = u} {x = x} w a p) = run_join (items s x t w) (marks t u a) (row-spelled p)

module _ {A : Type 0} (Item : Saying A) (f : Form) (items : (s : List ℕ) (x : A) (t : List ℕ) → Item s x t → Reads f s t) where
  brackets-spelled : {s t : List ℕ} {xs : List A} → SaysBrackets Item s xs t → Reads (bracketed f) s t
  brackets-spelled no_brackets = read_left read_none
  brackets-spelled (in_brackets a p e) = bracket-reads a (row-spelled Item 44 f (mark 44) (λ s x t w. run (items s x t w) read-end) (λ s t z. z) p) e

pub terms-spelled : {s t : List ℕ} {xs : List Name} → SaysBrackets SaysTerm s xs t → Reads (bracketed term) s t
terms-spelled = brackets-spelled SaysTerm term (λ s x t w. term-spelled w)

pub literal-spelled : {s t : List ℕ} {l : Said} → SaysLiteral s l t → Reads literal s t
literal-spelled (a_call p q) = read_left (read_then (lower-spelled p) (terms-spelled q))
literal-spelled (an_equality p a q) = read_right (read_then (term-spelled p) (read_then a (term-spelled q)))

-- ---- goals

stage-run : {s t : List ℕ} {st : List Said} → SaysStage s st t → Run literal sep s t
stage-run = row-spelled SaysLiteral 44 literal sep (λ s l t w. run (literal-spelled w) read-end) (λ s t a. read_left a)

goal-run : {s t : List ℕ} {g : List (List Said)} → SaysGoal s g t → Run literal sep s t
goal-run = row-spelled SaysStage 38 literal sep (λ s st t w. stage-run w) (λ s t a. read_right a)

run-goal : {s t : List ℕ} → Run literal sep s t → Reads goal s t
run-goal (run a b) = read_then a b

pub goal-spelled : {s t : List ℕ} {g : List (List Said)} → SaysGoal s g t → Reads goal s t
goal-spelled w = run-goal (goal-run w)

pub body_spelled : {s t : List ℕ} {g : List (List Said)} → SaysBody s g t → Reads (perhaps goal) s t
body_spelled no_goal = read_left read_none
body_spelled (a_goal w) = read_right (goal-spelled w)

-- ---- lines

pub mode-spelled : {s t : List ℕ} {m : ℕ} → SaysMode s m t → Reads (mark 63 or mark 94) s t
mode-spelled (an_input a) = read_left a
mode-spelled (an_output a) = read_right a

pub modes-spelled : {s t : List ℕ} {ms : List ℕ} → SaysBrackets SaysMode s ms t → Reads (bracketed (mark 63 or mark 94)) s t
modes-spelled = brackets-spelled SaysMode (mark 63 or mark 94) (λ s x t w. mode-spelled w)

pub mode-line-spelled : {s t : List ℕ} {m : ModeLine} → SaysModeLine s m t → Reads mode_line s t
mode-line-spelled (a_mode_line b p q e) =
    read_then (byte_reads 109 _) (read_then (byte_reads 111 _) (read_then (byte_reads 100 _) (read_then (byte_reads 101 _) (read_then b (read_then (lower-spelled p) (read_then (modes-spelled q) e))))))

pub halves-spelled : {s t : List ℕ} {g b : List (List Said)} → SaysHalves s g b t → Reads halves_form s t
halves-spelled no_halves = read_left read_none
halves-spelled (a_body a p) = read_right (read_then a (read_then (goal-spelled p) (read_left read_none)))
halves-spelled (a_guard a p c q) = read_right (read_then a (read_then (goal-spelled p) (read_right (read_then c (body_spelled q)))))

pub end-spelled : {s t : List ℕ} {e : Bool} → SaysEnd s e t → Reads (mark 46 or mark 59) s t
end-spelled (a_stop a) = read_left a
end-spelled (a_semicolon a) = read_right a

pub clause-spelled : {s t : List ℕ} {c : SaidClause} → SaysClause s c t → Reads clause s t
clause-spelled (a_clause p q h e) = read_then (lower-spelled p) (read_then (terms-spelled q) (read_then (halves-spelled h) (end-spelled e)))

module _ {A : Type 0} (Line : Saying A) (f : Form) (line : (s : List ℕ) (x : A) (t : List ℕ) → Line s x t → Reads f s t) where
  lines-spelled : {s t : List ℕ} {xs : List A} → SaysLines Line s xs t → Reads (many f) s t
  lines-spelled no_line = read-end
  lines-spelled {s} (a_line {t = t} {x = x} w p) = read_more (line s x t w) (lines-spelled p)

mode-lines-spelled : {s t : List ℕ} {ms : List ModeLine} → SaysLines SaysModeLine s ms t → Reads (many mode_line) s t
mode-lines-spelled = lines-spelled SaysModeLine mode_line (λ s x t w. mode-line-spelled w)

pub clauses-spelled : {s t : List ℕ} {cs : List SaidClause} → SaysLines SaysClause s cs t → Reads (many clause) s t
clauses-spelled = lines-spelled SaysClause clause (λ s x t w. clause-spelled w)

goal-line-spelled : {s t : List ℕ} {g : List (List Said)} → SaysGoalLine s g t → Reads goal_line s t
goal-line-spelled (a_goal_line a p e) = read_then a (read_then (body_spelled p) e)

-- THE LAW: what says something is a clause text
pub says-text : {s : List ℕ} {p : Source} → SaysText s p → ClauseText s
unfolding ClauseText text
says-text (a_text b ms cs g) = read_then b (read_then (mode-lines-spelled ms) (read_then (clauses-spelled cs) (goal-line-spelled g)))
