-- What is spelled right says something.
use mathlib.Core.Path.{◌≡◌}
use mathlib.Core.List.{[], ◌++◌, List}
use Prim.Native.Nat.{ℕ}
use Rattle.spell.specs.Forms.{◌or◌, ◌then◌, Form, many, read-end, read_left, read_more, read_none, read_right, read_then, Reads}
use Rattle.spell.specs.Grammar.{arrow, blank, blanks, bracketed, capital, clause, ClauseText, goal, literal, lower, mark, mode_line, name_byte, perhaps, small, term, text, word}
use Rattle.text_forth.proofs.Followed.{byte-back, four_bytes, halves_form}
use Rattle.text_forth.proofs.Follows.{capital-in-name, First, N, name-first, one, sep, small-in-name, span-first}
use Rattle.text_program.specs.Source.{mode_word, Said, Source}
use Rattle.text_said.specs.Saying.{a_body, a_byte, a_call, a_clause, a_constant, a_goal, a_goal_line, a_guard, a_line, a_lower, a_mode_line, a_semicolon, a_stop, a_text, a_variable, an_equality, an_input, an_output, in_brackets, last_item, next_item, no_brackets, no_byte, no_goal, no_halves, no_line, Saying, SaysBody, SaysBrackets, SaysBytes, SaysClause, SaysEnd, SaysGoal, SaysGoalLine, SaysHalves, SaysLines, SaysLiteral, SaysLower, SaysMode, SaysModeLine, SaysRow, SaysTerm, SaysText}

-- something is said between s and t
data Told {A : Type 0} (Item : Saying A) (s t : List ℕ) : Type 0 where
  told : {x : A} → Item s x t → Told Item s t

-- ---- words

byte-by : {s m t : List ℕ} → First N s m → Reads name_byte s m → Told SaysBytes m t → Told SaysBytes s t
byte-by (one e) a (told w) = told (a_byte a w)

bytes-say : {s t : List ℕ} → Reads (many name_byte) s t → Told SaysBytes s t
bytes-say read-end = told no_byte
bytes-say (read_more p q) = byte-by (name-first p) p (bytes-say q)

lower_by : {s m u t : List ℕ} → First N s m → Reads small s m → Told SaysBytes m u → Reads blanks u t → Told SaysLower s t
lower_by (one e) a (told w) r = told (a_lower a w r)

lower-says : {s t : List ℕ} → Reads lower s t → Told SaysLower s t
lower-says (read_then (read_then p q) r) = lower_by (span-first {P = N} small-in-name p) p (bytes-say q) r

constant_by : {s t : List ℕ} → Told SaysLower s t → Told SaysTerm s t
constant_by (told w) = told (a_constant w)

variable-by : {s m u t : List ℕ} → First N s m → Reads capital s m → Told SaysBytes m u → Reads blanks u t → Told SaysTerm s t
variable-by (one e) a (told w) r = told (a_variable a w r)

term-says : (s t : List ℕ) → Reads term s t → Told SaysTerm s t
term-says s t (read_then (read_then (read_left p) q) r) = constant_by (lower-says (read_then (read_then p q) r))
term-says s t (read_then (read_then (read_right p) q) r) = variable-by (span-first {P = N} capital-in-name p) p (bytes-say q) r

-- ---- items

module _ {A : Type 0} (Item : Saying A) (f : Form) (says : (s t : List ℕ) → Reads f s t → Told Item s t) where
  row_by : {s m v t : List ℕ} → Told Item s m → Reads (mark 44) m v → Told (SaysRow Item 44) v t → Told (SaysRow Item 44) s t
  row_by (told w) a (told p) = told (next_item w a p)

  row_one : {s t : List ℕ} → Told Item s t → Told (SaysRow Item 44) s t
  row_one (told w) = told (last_item w)

  row-says : {s m t : List ℕ} → Reads f s m → Reads (many (mark 44 then f)) m t → Told (SaysRow Item 44) s t
  row-says {s} {m} p read-end = row_one (says s m p)
  row-says {s} {m} p (read_more (read_then a b) q) = row_by (says s m p) a (row-says b q)

  brackets-by : {s v u t : List ℕ} → Reads (mark 40) s v → Told (SaysRow Item 44) v u → Reads (mark 41) u t → Told (SaysBrackets Item) s t
  brackets-by a (told w) e = told (in_brackets a w e)

  brackets-say : {s t : List ℕ} → Reads (bracketed f) s t → Told (SaysBrackets Item) s t
  brackets-say (read_left read_none) = told no_brackets
  brackets-say (read_right (read_then a (read_then b (read_then q e)))) = brackets-by a (row-says b q) e

terms-say : {s t : List ℕ} → Reads (bracketed term) s t → Told (SaysBrackets SaysTerm) s t
terms-say = brackets-say SaysTerm term term-says

call_by : {s m t : List ℕ} → Told SaysLower s m → Told (SaysBrackets SaysTerm) m t → Told SaysLiteral s t
call_by (told p) (told q) = told (a_call p q)

equality-by : {s m v t : List ℕ} → Told SaysTerm s m → Reads (mark 61) m v → Told SaysTerm v t → Told SaysLiteral s t
equality-by (told p) a (told q) = told (an_equality p a q)

literal-says : {s t : List ℕ} → Reads literal s t → Told SaysLiteral s t
literal-says (read_left (read_then p q)) = call_by (lower-says p) (terms-say q)
literal-says (read_right (read_then {s = s} {t = m} p (read_then {t = v} {u = t} a q))) = equality-by (term-says s m p) a (term-says v t q)

-- ---- goals

-- a literal alone
goal-one : {s t : List ℕ} → Told SaysLiteral s t → Told SaysGoal s t
goal-one (told w) = told (last_item (last_item w))

-- behind `,` it stands in the first stage
in_stage : {s m v t : List ℕ} → Told SaysLiteral s m → Reads (mark 44) m v → Told SaysGoal v t → Told SaysGoal s t
in_stage (told w) a (told (last_item p)) = told (last_item (next_item w a p))
in_stage (told w) a (told (next_item p c q)) = told (next_item (next_item w a p) c q)

-- behind `&` it is a stage of its own
own-stage : {s m v t : List ℕ} → Told SaysLiteral s m → Reads (mark 38) m v → Told SaysGoal v t → Told SaysGoal s t
own-stage (told w) a (told p) = told (next_item (last_item w) a p)

goal-from : {s m t : List ℕ} → Reads literal s m → Reads (many (sep then literal)) m t → Told SaysGoal s t
goal-from p read-end = goal-one (literal-says p)
goal-from p (read_more (read_then (read_left a) b) q) = in_stage (literal-says p) a (goal-from b q)
goal-from p (read_more (read_then (read_right a) b) q) = own-stage (literal-says p) a (goal-from b q)

goal-says : {s t : List ℕ} → Reads goal s t → Told SaysGoal s t
goal-says (read_then p q) = goal-from p q

body-by : {s t : List ℕ} → Told SaysGoal s t → Told SaysBody s t
body-by (told w) = told (a_goal w)

body-says : {s t : List ℕ} → Reads (perhaps goal) s t → Told SaysBody s t
body-says (read_left read_none) = told no_goal
body-says (read_right p) = body-by (goal-says p)

-- ---- mode lines

mode-says : (s t : List ℕ) → Reads (mark 63 or mark 94) s t → Told SaysMode s t
mode-says s t (read_left a) = told (an_input a)
mode-says s t (read_right a) = told (an_output a)

mode-line-by : {s x z m u t : List ℕ} → s ≡ mode_word ++ x → Reads (word blank) x z → Told SaysLower z m → Told (SaysBrackets SaysMode) m u → Reads (mark 46) u t → Told SaysModeLine s t
mode-line-by e b (told p) (told q) a = rw e (told (a_mode_line b p q a))

mode-line-says : (s t : List ℕ) → Reads mode_line s t → Told SaysModeLine s t
mode-line-says s t (read_then a (read_then b (read_then c (read_then d (read_then bl (read_then lo (read_then br mk))))))) =
    mode-line-by (four_bytes (byte-back a) (byte-back b) (byte-back c) (byte-back d)) bl (lower-says lo) (brackets-say SaysMode (mark 63 or mark 94) mode-says br) mk

-- ---- clauses

data Halved (s t : List ℕ) : Type 0 where
  halved : {g b : List (List Said)} → SaysHalves s g b t → Halved s t

body-halves : {s v t : List ℕ} → Reads arrow s v → Told SaysGoal v t → Halved s t
body-halves a (told w) = halved (a_body a w)

guard-halves : {s v m u t : List ℕ} → Reads arrow s v → Told SaysGoal v m → Reads (mark 58) m u → Told SaysBody u t → Halved s t
guard-halves a (told p) c (told q) = halved (a_guard a p c q)

halves-say : {s t : List ℕ} → Reads halves_form s t → Halved s t
halves-say (read_left read_none) = halved no_halves
halves-say (read_right (read_then a (read_then g (read_left read_none)))) = body-halves a (goal-says g)
halves-say (read_right (read_then a (read_then g (read_right (read_then c b))))) = guard-halves a (goal-says g) c (body-says b)

end-says : {s t : List ℕ} → Reads (mark 46 or mark 59) s t → Told SaysEnd s t
end-says (read_left a) = told (a_stop a)
end-says (read_right a) = told (a_semicolon a)

clause-by : {s m u w t : List ℕ} → Told SaysLower s m → Told (SaysBrackets SaysTerm) m u → Halved u w → Told SaysEnd w t → Told SaysClause s t
clause-by (told p) (told q) (halved h) (told e) = told (a_clause p q h e)

clause-says : (s t : List ℕ) → Reads clause s t → Told SaysClause s t
clause-says s t (read_then a (read_then b (read_then c d))) = clause-by (lower-says a) (terms-say b) (halves-say c) (end-says d)

-- ---- all lines

module _ {A : Type 0} (Line : Saying A) (f : Form) (says : (s t : List ℕ) → Reads f s t → Told Line s t) where
  lines-by : {s m t : List ℕ} → Told Line s m → Told (SaysLines Line) m t → Told (SaysLines Line) s t
  lines-by (told w) (told p) = told (a_line w p)

  lines-say : {s t : List ℕ} → Reads (many f) s t → Told (SaysLines Line) s t
  lines-say read-end = told no_line
  lines-say {s} (read_more {t = m} p q) = lines-by (says s m p) (lines-say q)

goal-line-by : {s v w t : List ℕ} → Reads arrow s v → Told SaysBody v w → Reads (mark 46) w t → Told SaysGoalLine s t
goal-line-by a (told p) e = told (a_goal_line a p e)

-- a text says something
pub data TextTold (s : List ℕ) : Type 0 where
  text-told : {p : Source} → SaysText s p → TextTold s

text-by : {s a b c : List ℕ} → Reads blanks s a → Told (SaysLines SaysModeLine) a b → Told (SaysLines SaysClause) b c → Told SaysGoalLine c [] → TextTold s
text-by r (told m) (told k) (told g) = text-told (a_text r m k g)

-- THE LAW: a clause text says something
pub text_says : (s : List ℕ) → ClauseText s → TextTold s
unfolding ClauseText text
text_says s (read_then r (read_then m (read_then k (read_then a (read_then b e))))) =
    text-by r (lines-say SaysModeLine mode_line mode-line-says m) (lines-say SaysClause clause clause-says k) (goal-line-by a (body-says b) e)
