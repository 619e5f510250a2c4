-- A clause text read: what its lines say, with names as they are written.
use Rattle.std.specs.Prelude.{◌&&◌, ◌||◌, Bool, cond, false, true, [], ◌∷◌, List, suc, zero, ℕ, eqb, drop, length}
use Rattle.text_names.specs.Bytes.{first, front, is_small, next, past, skip}
use Rattle.text_names.specs.Names.{Name, same_name}

-- ---- what is said

-- Text 4: a literal: a relation and its terms, or two terms that are equal
pub data Said : Type 0 where
  calls : Name → List Name → Said
  equals : Name → Name → Said

-- Text 3: a mode line: a relation and its modes, as the image has them
pub record ModeLine : Type 0 where
  pub name : Name
  pub modes : List ℕ

-- Text 6: a clause: its head, guard and body, and whether it ends in `;`
pub record SaidClause : Type 0 where
  pub name : Name
  pub terms : List Name
  pub guard : List (List Said)
  pub body : List (List Said)
  pub semicolon : Bool

-- Text 8: all lines of a text
pub record Source : Type 0 where
  pub modes : List ModeLine
  pub clauses : List SaidClause
  pub goal : List (List Said)

-- ---- reading

-- what was read, and the text behind it
pub record Got (A : Type 0) : Type 0 where
  pub value : A
  pub rest : List ℕ

abbrev pub Reader : Type 0 → Type 0
Reader A = List ℕ → Got A

abbrev pub got : {A : Type 0} → A → List ℕ → Got A
got x s = record { value = x; rest = s }

-- an item in front of those behind it
abbrev pub cons_got : {A : Type 0} → A → Got (List A) → Got (List A)
cons_got x g = got (x ∷ g.value) g.rest

-- where the mark stands behind an item, another one follows
abbrev pub row_by : {A : Type 0} → Reader (List A) → Bool → Got A → Got (List A)
row_by more true g = cons_got g.value (more (next g.rest))
row_by more false g = got (g.value ∷ []) g.rest

-- up to n items with a mark between them
unfoldable pub row_for : {A : Type 0} → ℕ → Reader A → ℕ → Reader (List A)
row_for zero read mark s = got [] s
row_for (suc n) read mark s = row_by (row_for n read mark) (eqb (first (read s).rest) mark) (read s)

-- as many as there are: not more than bytes
abbrev pub row : {A : Type 0} → Reader A → ℕ → Reader (List A)
row read mark s = row_for (length s) read mark s

-- Text 3, 4: items in brackets, or no brackets
abbrev pub brackets_by : {A : Type 0} → Bool → Reader A → Reader (List A)
brackets_by true read s = let g = row read 44 (next s) in got g.value (next g.rest)
brackets_by false read s = got [] s

unfoldable pub read_brackets : {A : Type 0} → Reader A → Reader (List A)
read_brackets read s = brackets_by (eqb (first s) 40) read s

-- Text 4: a term is a name
unfoldable pub read_term : Reader Name
read_term s = got (front s) (past s)

-- Text 4: an equality has `=` behind its first name
abbrev pub literal_by : Bool → Reader Said
literal_by true s = let g = read_term (next (past s)) in got (equals (front s) g.value) g.rest
literal_by false s = let g = read_brackets read_term (past s) in got (calls (front s) g.value) g.rest

unfoldable pub read_literal : Reader Said
read_literal s = literal_by (eqb (first (past s)) 61) s

-- Text 5: literals of a stage have `,` between them, stages `&`
unfoldable pub read_goal : Reader (List (List Said))
read_goal s = row (row read_literal 44) 38 s

-- Text 6, 7: where the line ends, there is no goal
unfoldable pub read_body : Reader (List (List Said))
read_body s = cond (eqb (first s) 46 || eqb (first s) 59) (got [] s) (read_goal s)

-- behind `<-`
abbrev pub behind_arrow : List ℕ → List ℕ
behind_arrow s = skip (drop 2 s)

-- Text 3: a mode, 0 for `?` and 1 for `^`
abbrev pub read_mode : Reader ℕ
read_mode s = got (cond (eqb (first s) 94) 1 0) (next s)

-- Text 3: a mode line; `mode` is a name too
unfoldable pub read_mode_line : Reader ModeLine
read_mode_line s =
    let g = read_brackets read_mode (past (past s)) in
    got (record { name = front (past s); modes = g.value }) (next g.rest)

-- ---- clauses

-- guard and body
pub record Halves : Type 0 where
  pub guard : List (List Said)
  pub body : List (List Said)

-- Text 6: `:` stands behind a guard
abbrev pub halves_by : Bool → Got (List (List Said)) → Got Halves
halves_by true g = let b = read_body (next g.rest) in got (record { guard = g.value; body = b.value }) b.rest
halves_by false g = got (record { guard = []; body = g.value }) g.rest

-- Text 6: and `<-` before anything
abbrev pub arrow_by : Bool → Reader Halves
arrow_by true s = let g = read_goal (behind_arrow s) in halves_by (eqb (first g.rest) 58) g
arrow_by false s = got (record { guard = []; body = [] }) s

unfoldable pub read_halves : Reader Halves
read_halves s = arrow_by (eqb (first s) 60) s

-- Text 6: head, halves, and the mark at the end
unfoldable pub read_clause : Reader SaidClause
read_clause s =
    let h = read_brackets read_term (past s) in
    let g = read_halves h.rest in
    got
    (record { name = front s; terms = h.value; guard = g.value.guard; body = g.value.body; semicolon = eqb (first g.rest) 59 })
    (next g.rest)

-- ---- the whole text

-- `mode`
abbrev pub mode_word : Name
mode_word = 109 ∷ 111 ∷ 100 ∷ 101 ∷ []

-- Text 8: a mode line is `mode` and a name behind it
unfoldable pub is_mode_line : List ℕ → Bool
is_mode_line s = same_name (front s) mode_word && is_small (first (past s))

-- Text 8: a clause is what does not begin with `<-`
unfoldable pub is_clause : List ℕ → Bool
is_clause s = cond (eqb (first s) 60) false true

-- one line more, where the text goes on with one
abbrev pub lines_by : {A : Type 0} → Reader (List A) → Bool → Reader A → Reader (List A)
lines_by more true read s = cons_got (read s).value (more (read s).rest)
lines_by more false read s = got [] s

-- up to n lines of a sort
unfoldable pub lines_for : {A : Type 0} → ℕ → (List ℕ → Bool) → Reader A → Reader (List A)
lines_for zero is read s = got [] s
lines_for (suc n) is read s = lines_by (lines_for n is read) (is s) read s

abbrev pub lines : {A : Type 0} → (List ℕ → Bool) → Reader A → Reader (List A)
lines is read s = lines_for (length s) is read s

-- Text 8: mode lines, clauses, goal line
unfoldable pub source_of : List ℕ → Source
source_of s =
    let m = lines is_mode_line read_mode_line (skip s) in
    let c = lines is_clause read_clause m.rest in
    record { modes = m.value; clauses = c.value; goal = (read_body (behind_arrow c.rest)).value }
