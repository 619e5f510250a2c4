-- The names of a text have no more bytes than the text.
use mathlib.Core.Path.{◌≡◌, ap, refl}
use mathlib.Core.Bool.{◌||◌, Bool, cond, false, true}
use mathlib.Core.List.{[], ◌++◌, ◌∷◌, List, map}
use Prim.Native.Nat.{◌+◌, ◌<◌, ◌≤◌, suc, zero, ℕ}
use lib.Dec.{eqb}
use lib.ListN.{drop, length, length-append, length-drop}
use borrow.Author.Tests.{eqb-true}
use native.Mathlib.Omega.{arith}
use Rattle.std.proofs.lemmas.Bool.{and_parts}
use Rattle.text_loads.proofs.Parsed.{parse-steps}
use Rattle.text_loads.proofs.Short.{never-long, passed-short}
use Rattle.text_loads.specs.Loads.{NamesFit, RowsSuffice}
use Rattle.text_names.proofs.Looked.{same-is}
use Rattle.text_names.proofs.Rest.{next-less, past-less, skip-less}
use Rattle.text_names.specs.Bytes.{first, front, next, past, skip}
use Rattle.text_names.specs.Entries.{entries}
use Rattle.text_names.specs.Names.{add, adds, known, Name, same_name}
use Rattle.text_program.proofs.Joined.{singles}
use Rattle.text_program.specs.Numbered.{clause_terms, constant_names, goal_terms, is_upper, joined, lowers, relation_names, said_terms}
use Rattle.text_program.specs.Parsing.{image_in, names_in, ParseCall}
use Rattle.text_program.specs.Source.{arrow_by, behind_arrow, brackets_by, Got, got, Halves, halves_by, is_clause, is_mode_line, lines, lines_by, lines_for, literal_by, ModeLine, mode_word, read_body, read_brackets, read_clause, Reader, read_goal, read_halves, read_literal, read_mode, read_mode_line, read_term, row, row_by, row_for, Said, SaidClause, source_of}

-- ---- bytes of names

abbrev size : List Name → ℕ
size xs = length (entries xs)

size-more : (x : Name) (xs : List Name) → size (x ∷ xs) ≡ length x + 1 + size xs
unfolding entries
size-more x xs = omega (arith, length-append x (10 ∷ entries xs))

size_none : size [] ≡ 0
unfolding entries
size_none = refl

size-append : (xs ys : List Name) → size (xs ++ ys) ≡ size xs + size ys
size-append [] ys = omega (arith, size_none)
size-append (x ∷ xs) ys = omega (arith, size-more x (xs ++ ys), size-more x xs, size-append xs ys)

lowers-size : (xs : List Name) → size (lowers xs) ≤ size xs
unfolding lowers
lowers-size [] = omega arith
lowers-size (x ∷ xs) = go (is_upper x) (lowers-size xs)
  where
    go : (b : Bool) → size (lowers xs) ≤ size xs → size (cond b (lowers xs) (x ∷ lowers xs)) ≤ size (x ∷ xs)
    go true i = omega (arith, size-more x xs)
    go false i = omega (arith, size-more x xs, size-more x (lowers xs))

add-size : (ys : List Name) (x : Name) → size (add ys x) ≤ size ys + size (x ∷ [])
unfolding add
add-size ys x = go (known ys x)
  where
    go : (b : Bool) → size (cond b ys (ys ++ (x ∷ []))) ≤ size ys + size (x ∷ [])
    go true = omega arith
    go false = omega (arith, size-append ys (x ∷ []))

adds-size : (xs ys : List Name) → size (adds ys xs) ≤ size ys + size xs
unfolding adds
adds-size [] ys = omega arith
adds-size (x ∷ xs) ys = omega (arith, adds-size xs (add ys x), add-size ys x, size-more x xs, size-more x [], size_none)

-- ---- what is read off a text

-- a mark is a byte
next_one : (s : List ℕ) (m : ℕ) → first s ≡ m → 0 < m → length (next s) + 1 ≤ length s
next_one [] m e h = absurd (omega arith)
next_one (b ∷ s) m e h = omega (arith, skip-less s)

arrow-one : (s : List ℕ) → first s ≡ 60 → length (behind_arrow s) + 1 ≤ length s
arrow-one [] e = absurd (omega arith)
arrow-one (b ∷ s) e = omega (arith, skip-less (drop 1 s), length-drop 1 s)

-- what was read has its bytes in the text, but for k
abbrev Pays : {A : Type 0} → (A → List Name) → ℕ → List ℕ → Got A → Type 0
Pays names k s g = size (names g.value) + length g.rest ≤ length s + k

module _ {A : Type 0} (read : Reader A) (names : A → List Name) (mark : ℕ) (some : 0 < mark) (item : (s : List ℕ) → Pays names 1 s (read s)) where
  row-pays : (n : ℕ) (s : List ℕ) → Pays (joined names) 1 s (row_for n read mark s)
  unfolding row_for joined
  row-pays zero s = omega (arith, size_none)
  row-pays (suc n) s = go (eqb (first (read s).rest) mark) refl (row-pays n (next (read s).rest))
    where
      go : (b : Bool) → eqb (first (read s).rest) mark ≡ b → Pays (joined names) 1 (next (read s).rest) (row_for n read mark (next (read s).rest)) → Pays (joined names) 1 s (row_by (row_for n read mark) b (read s))
      go true e i =
          unfold joined in omega (arith, item s, next_one (read s).rest mark (eqb-true (first (read s).rest) mark e) some, size-append (names (read s).value) (joined names (row_for n read mark (next (read s).rest)).value), i)
      go false e i = unfold joined in omega (arith, item s, size-append (names (read s).value) [], size_none)

-- ---- terms, literals, goals

abbrev one : Name → List Name
one x = x ∷ []

term-pays : (s : List ℕ) → Pays one 1 s (read_term s)
unfolding read_term
term-pays s = omega (arith, past-less s, size-more (front s) [], size_none)

abbrev all : List Name → List Name
all xs = xs

brackets-pay : (s : List ℕ) → Pays all 0 s (read_brackets read_term s)
unfolding read_brackets
brackets-pay s = go (eqb (first s) 40) refl
  where
    go : (b : Bool) → eqb (first s) 40 ≡ b → Pays all 0 s (brackets_by b read_term s)
    go true e =
        let g = row read_term 44 (next s) in
        let r = row-pays read_term one 44 (omega arith) term-pays (length (next s)) (next s) in
        omega (arith, (rw (singles g.value) at r), next_one s 40 (eqb-true (first s) 40 e) (omega arith), next-less g.rest)
    go false e = omega (arith, size_none)

literal-pays : (s : List ℕ) → Pays said_terms 1 s (read_literal s)
unfolding read_literal
literal-pays s = go (eqb (first (past s)) 61) refl
  where
    go : (b : Bool) → eqb (first (past s)) 61 ≡ b → Pays said_terms 1 s (literal_by b s)
    go true e =
        let v = next (past s) in
        unfold read_term in omega (
          arith,
          past-less s,
          next_one (past s) 61 (eqb-true (first (past s)) 61 e) (omega arith),
          past-less v,
          size-more (front s) (front v ∷ []),
          size-more (front v) [],
          size_none,
        )
    go false e = omega (arith, past-less s, brackets-pay (past s))

stage-pays : (s : List ℕ) → Pays (joined said_terms) 1 s (row read_literal 44 s)
stage-pays s = row-pays read_literal said_terms 44 (omega arith) literal-pays (length s) s

goal-pays : (s : List ℕ) → Pays goal_terms 1 s (read_goal s)
unfolding read_goal
goal-pays s = row-pays (row read_literal 44) (joined said_terms) 38 (omega arith) stage-pays (length s) s

no_goal : size (goal_terms []) ≡ 0
unfolding joined
no_goal = size_none

body-pays : (s : List ℕ) → Pays goal_terms 1 s (read_body s)
unfolding read_body
body-pays s = go (eqb (first s) 46 || eqb (first s) 59)
  where
    go : (b : Bool) → Pays goal_terms 1 s (cond b (got [] s) (read_goal s))
    go true = omega (arith, no_goal)
    go false = goal-pays s

-- ---- clauses

abbrev halves_terms : Halves → List Name
halves_terms h = goal_terms h.guard ++ goal_terms h.body

halves-pay : (s : List ℕ) → Pays halves_terms 0 s (read_halves s)
unfolding read_halves
halves-pay s = go (eqb (first s) 60) refl
  where
    both : (b : Bool) (g : Got (List (List Said))) → eqb (first g.rest) 58 ≡ b → size (goal_terms g.value) + length g.rest ≤ length s → Pays halves_terms 0 s (halves_by b g)
    both true g e h =
        let u = read_body (next g.rest) in
        omega (arith, h, next_one g.rest 58 (eqb-true (first g.rest) 58 e) (omega arith), body-pays (next g.rest), size-append (goal_terms g.value) (goal_terms u.value))
    both false g e h = omega (arith, h, size-append (goal_terms []) (goal_terms g.value), no_goal)

    go : (b : Bool) → eqb (first s) 60 ≡ b → Pays halves_terms 0 s (arrow_by b s)
    go true e =
        let g = read_goal (behind_arrow s) in
        both (eqb (first g.rest) 58) g refl (omega (arith, goal-pays (behind_arrow s), arrow-one s (eqb-true (first s) 60 e)))
    go false e = omega (arith, size-append (goal_terms []) (goal_terms []), no_goal)

clause-pays : (s : List ℕ) → Pays clause_terms 0 s (read_clause s)
unfolding read_clause
clause-pays s =
    let h = read_brackets read_term (past s) in
    let g = read_halves h.rest in
    omega (
      arith,
      past-less s,
      brackets-pay (past s),
      halves-pay h.rest,
      next-less g.rest,
      size-append h.value (goal_terms g.value.guard ++ goal_terms g.value.body),
    )

-- ---- mode lines

-- modes have no names
mode-pays : (s : List ℕ) → Pays {A = ℕ} (λ m. []) 1 s (read_mode s)
mode-pays s = omega (arith, size_none, next-less s)

modes-pay : (s : List ℕ) → length (read_brackets read_mode s).rest ≤ length s
unfolding read_brackets
modes-pay s = go (eqb (first s) 40) refl
  where
    go : (b : Bool) → eqb (first s) 40 ≡ b → length (brackets_by b read_mode s).rest ≤ length s
    go true e =
        let g = row read_mode 44 (next s) in
        omega (arith, row-pays read_mode (λ m. []) 44 (omega arith) mode-pays (length (next s)) (next s), next_one s 40 (eqb-true (first s) 40 e) (omega arith), next-less g.rest)
    go false e = omega arith

abbrev mode_name : ModeLine → List Name
mode_name m = m.name ∷ []

mode-line-pays : (s : List ℕ) → is_mode_line s ≡ true → Pays mode_name 0 s (read_mode_line s)
unfolding read_mode_line is_mode_line
mode-line-pays s e =
    let g = read_brackets read_mode (past (past s)) in
    let w = ap length (same-is (front s) mode_word (and_parts (same_name (front s) mode_word) _ e).0) in
    omega (arith, w, past-less s, past-less (past s), modes-pay (past (past s)), next-less g.rest, size-more (front (past s)) [], size_none)

-- ---- lines

module _ {A : Type 0} (is : List ℕ → Bool) (read : Reader A) (names : A → List Name) (item : (s : List ℕ) → is s ≡ true → Pays names 0 s (read s)) where
  lines-pay : (n : ℕ) (s : List ℕ) → Pays (joined names) 0 s (lines_for n is read s)
  unfolding lines_for joined
  lines-pay zero s = omega (arith, size_none)
  lines-pay (suc n) s = go (is s) refl (lines-pay n (read s).rest)
    where
      go : (b : Bool) → is s ≡ b → Pays (joined names) 0 (read s).rest (lines_for n is read (read s).rest) → Pays (joined names) 0 s (lines_by (lines_for n is read) b read s)
      go true e i = unfold joined in omega (arith, item s e, i, size-append (names (read s).value) (joined names (lines_for n is read (read s).rest).value))
      go false e i = unfold joined in omega (arith, size_none)

-- ---- the goal line

no_text : size (goal_terms (read_body []).value) ≡ 0
unfolding read_body read_goal row_for joined
no_text = size_none

goal-line-pays : (s : List ℕ) → size (goal_terms (read_body (behind_arrow s)).value) ≤ length s
goal-line-pays [] = unfold skip in omega (arith, no_text)
goal-line-pays (b ∷ s) = omega (arith, body-pays (behind_arrow (b ∷ s)), skip-less (drop 1 s), length-drop 1 s)

-- ---- all of it

names-joined : (ms : List ModeLine) → joined mode_name ms ≡ map (λ (m : ModeLine). m.name) ms
unfolding joined
names-joined [] = refl
names-joined (m ∷ ms) = ap (λ (xs : List Name). m.name ∷ xs) (names-joined ms)

module _ (s : List ℕ) where
  abbrev mode_lines : Got (List ModeLine)
  mode_lines = lines is_mode_line read_mode_line (skip s)

  abbrev clause_lines : Got (List SaidClause)
  clause_lines = lines is_clause read_clause mode_lines.rest

  abbrev goal_said : List (List Said)
  goal_said = (read_body (behind_arrow clause_lines.rest)).value

  text-pays : size (map (λ (m : ModeLine). m.name) mode_lines.value) + size (joined clause_terms clause_lines.value ++ goal_terms goal_said) ≤ length s
  text-pays =
      let m = lines-pay is_mode_line read_mode_line mode_name mode-line-pays (length (skip s)) (skip s) in
      omega (
        arith,
        skip-less s,
        (rw (names-joined mode_lines.value) at m),
        lines-pay is_clause read_clause clause_terms (λ t e. clause-pays t) (length mode_lines.rest) mode_lines.rest,
        goal-line-pays clause_lines.rest,
        size-append (joined clause_terms clause_lines.value) (goal_terms goal_said),
      )

  source-pays : size (relation_names (source_of s)) + size (joined clause_terms (source_of s).clauses ++ goal_terms (source_of s).goal) ≤ length s
  unfolding source_of
  source-pays = text-pays

-- THE LAW: a names row as long as the text has room
pub names_fit : NamesFit
unfolding names_in constant_names
names_fit s =
    let p = source_of s in
    let ts = joined clause_terms p.clauses ++ goal_terms p.goal in
    omega (arith, source-pays s, size-append (relation_names p) (adds [] (lowers ts)), adds-size (lowers ts) [], lowers-size ts, size_none)

-- THE LAW: rows that always have room
pub rows-suffice : RowsSuffice
rows-suffice image names text r c a b d h k =
    let p = source_of text in
    ap (λ (x : ParseCall). x.answer) (parse-steps image names text p r c a refl b d (never-long (relation_names p) (image_in p) r c d) (omega (arith, passed-short (relation_names p) (image_in p) r c d)) (omega (arith, names_fit text)))
