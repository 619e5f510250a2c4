-- What is written is a clause text.
use Rattle.std.specs.Prelude.{Ok}
use mathlib.Core.Path.{◌∙◌, ◌≡◌, ap, refl}
use mathlib.Core.Bool.{◌||◌, Bool, cond, false, true}
use mathlib.Core.List.{[], ◌++◌, ◌∷◌, append_assoc, List}
use Prim.Native.Nat.{◌+◌, suc, ℕ}
use lib.Dec.{eqb}
use lib.ListN.{length}
use borrow.Author.Tests.{eqb-false, eqb-true, le-leb}
use native.Mathlib.Omega.{arith}
use Rattle.parlog.proofs.Bools.{and-true}
use Rattle.parlog.specs.Image.{is_input}
use Rattle.parlog.specs.Orders.{Each}
use Rattle.parlog.specs.Program.{Clause, Goal, Literal, Program}
use Rattle.parlog.specs.declared.Term.{Term}
use Rattle.spell.proofs.Exact.{right-accepted}
use Rattle.spell.specs.Forms.{◌or◌, ◌then◌, Form, in_span, many, read_byte, read-end, read_left, read_more, read_none, read_right, read_then, Reads}
use Rattle.spell.specs.Grammar.{arrow, blank, blanks, bracketed, byte, clause, ClauseText, goal, goal_line, literal, lower, mark, mode_line, name_byte, perhaps, term, text, word}
use Rattle.spell.specs.Stuck.{spelling_of}
use Rattle.std.proofs.Common.{⊎_elim}
use Rattle.std.proofs.lemmas.Bool.{or_cases}
use Rattle.text_back.proofs.Begin.{all_name, entry-lower, Lower, lower-spelt, Spelt, spelt-begins, spelt-some}
use Rattle.text_back.proofs.Items.{equality-text, goal-begins, GoalOk, LiteralOk, literals-back, literal_way, stages-back, stage_way, term-commas, term-spelt, TermOk, terms-back, term_way}
use Rattle.text_back.proofs.Lines.{arrow-skip, blank_skip, clause-split, ClauseOk, clauses-solid, colon-skip, goal-line-solid, guard-split, LinesOk, mode-commas, mode-split, modes-solid, modes-way, mode_way, name-lower, plain-skip, skip_stop, stop_of, Stops, stops-46, stops-by}
use Rattle.text_back.proofs.Rows.{Back, Between, bracket-split, rest_more, row-split, RowOk, rows_back, Way}
use Rattle.text_loads.proofs.Decoded.{anything}
use Rattle.text_names.specs.Bytes.{is_blank, is_capital, is_name, is_small, skip}
use Rattle.text_names.specs.Entries.{entry_name, is_entry}
use Rattle.text_program.specs.Numbered.{joined}
use Rattle.text_program.specs.Printing.{and_mark, bracket_text, clauses_text, clause_text, comma_mark, equals_mark, goal_line_text, goal_text, guard_mark, halves_text, literal_text, mode_lines_text, mode_line_text, mode_text, next_mark, program_text, relations_named, rest_text, row_text, stop_mark, term_text}

-- ---- bytes

one_span : (m b : ℕ) → b ≡ m → in_span m 0 b ≡ true
one_span m b e = rw (e, le-leb m m (omega arith), le-leb m (m + 0) (omega arith))

blank-reads : (b : ℕ) (s : List ℕ) → is_blank b ≡ true → Reads blank (b ∷ s) s
unfolding is_blank
blank-reads b s e =
    ⊎_elim (λ f. read_left (read_byte f))
    (λ g. ⊎_elim (λ f. read_right (read_left (read_byte (one_span 13 b (eqb-true b 13 f))))) (λ f. read_right (read_right (read_byte (one_span 32 b (eqb-true b 32 f))))) (or_cases (eqb b 13) (eqb b 32) g))
    (or_cases (in_span 9 1 b) (eqb b 13 || eqb b 32) e)

name-reads : (b : ℕ) (s : List ℕ) → is_name b ≡ true → Reads name_byte (b ∷ s) s
unfolding is_name is_small is_capital
name-reads b s e =
    ⊎_elim (λ f. read_left (read_byte f))
    (λ g. ⊎_elim (λ f. read_right (read_left (read_byte f)))
    (λ h. ⊎_elim (λ f. read_right (read_right (read_left (read_byte f)))) (λ f. read_right (read_right (read_right (read_byte (one_span 95 b (eqb-true b 95 f)))))) (or_cases (in_span 48 9 b) (eqb b 95) h))
    (or_cases (in_span 65 25 b) (in_span 48 9 b || eqb b 95) g))
    (or_cases (in_span 97 25 b) (in_span 65 25 b || (in_span 48 9 b || eqb b 95)) e)

pub skip-reads : (s : List ℕ) → Reads blanks s (skip s)
unfolding skip
skip-reads [] = read-end
skip-reads (b ∷ s) = go (is_blank b) refl (skip-reads s)
  where
    go : (h : Bool) → is_blank b ≡ h → Reads blanks s (skip s) → Reads blanks (b ∷ s) (cond h (skip s) (b ∷ s))
    go true e r = read_more (blank-reads b s e) r
    go false e r = read-end

names-reads : (x s : List ℕ) → all_name x ≡ true → Reads (many name_byte) (x ++ s) s
unfolding all_name
names-reads [] s e = read-end
names-reads (b ∷ x) s e = let w = and-true (is_name b) (all_name x) e in read_more (name-reads b (x ++ s) w.0) (names-reads x s w.1)

lower-reads : (x s : List ℕ) → Lower x → Reads lower (x ++ s) (skip s)
unfolding all_name is_small
lower-reads [] s p = let h = spelt-some [] (lower-spelt [] p) in absurd (omega arith)
lower-reads (b ∷ x) s p = read_then (read_then (read_byte p.small) (names-reads x s (and-true (is_name b) (all_name x) p.all).1)) (skip-reads s)

term-reads : (x s : List ℕ) → Spelt x → Reads term (x ++ s) (skip s)
unfolding all_name is_small is_capital
term-reads [] s p = let h = spelt-some [] p in absurd (omega arith)
term-reads (b ∷ x) s p =
    let a = names-reads x s (and-true (is_name b) (all_name x) p.all).1 in
    ⊎_elim (λ f. read_then (read_then (read_left (read_byte f)) a) (skip-reads s)) (λ f. read_then (read_then (read_right (read_byte f)) a) (skip-reads s)) (or_cases (in_span 97 25 b) (in_span 65 25 b) p.letter)

mark-reads : (m : ℕ) (s : List ℕ) → Reads (mark m) (m ∷ s) (skip s)
mark-reads m s = read_then (read_byte (one_span m m refl)) (skip-reads s)

pub byte_reads : (m : ℕ) (s : List ℕ) → Reads (byte m) (m ∷ s) s
byte_reads m s = read_byte (one_span m m refl)

arrow-reads : (s : List ℕ) → Reads arrow (60 ∷ 45 ∷ s) (skip s)
arrow-reads s = read_then (byte_reads 60 (45 ∷ s)) (mark-reads 45 s)

to : {x : Form} {s t u : List ℕ} → t ≡ u → Reads x s t → Reads x s u
to e r = rw e at r

of : {x : Form} {s t u : List ℕ} → s ≡ t → Reads x t u → Reads x s u
of e r = rw e r

many-join : {x : Form} {s t u : List ℕ} → Reads (many x) s t → Reads (many x) t u → Reads (many x) s u
many-join read-end q = q
many-join (read_more a p) q = read_more a (many-join p q)

-- ---- runs: items of a form with a mark between them

pub data Run (f m : Form) (s u : List ℕ) : Type 0 where
  run : {t : List ℕ} → Reads f s t → Reads (many (m then f)) t u → Run f m s u

pub run_join : {f m : Form} {s t v u : List ℕ} → Run f m s t → Reads m t v → Run f m v u → Run f m s u
run_join (run a b) c (run d e) = run a (many-join b (read_more (read_then c d) e))

run_of : {f m : Form} {s t u : List ℕ} → s ≡ t → Run f m t u → Run f m s u
run_of e r = rw e r

module _ {A B : Type 0} (w : Way A B) (b : Back w) (f m : Form) (between : List ℕ) (items : (x : A) (rest : List ℕ) → w.Ok x → Run f m (w.text x ++ rest) (skip rest)) (marks : (s : List ℕ) → Reads m (skip (between ++ s)) (skip s)) where
  run-rests : (x : A) (xs : List A) (rest : List ℕ) → Each w.Ok (x ∷ xs) → Run f m (w.text x ++ (rest_text w.text between xs ++ rest)) (skip rest)
  unfolding joined
  run-rests x [] rest o = items x rest o.0
  run-rests x (y ∷ ys) rest o =
      let t = w.text y ++ (rest_text w.text between ys ++ rest) in
      run_of (ap (λ (s : List ℕ). w.text x ++ s) (rest_more w.text between y ys rest))
      (run_join (items x (between ++ t) o.0) (to (b.begins y (rest_text w.text between ys ++ rest) o.1.0) (marks t)) (run-rests y ys rest o.1))

  pub run_row : (xs : List A) (rest : List ℕ) → RowOk w.Ok xs → Run f m (row_text w.text between xs ++ rest) (skip rest)
  run_row [] rest o = absurd o
  run_row (x ∷ xs) rest o = run_of (row-split w.text between x xs rest) (run-rests x xs rest o)

pub bracket-reads : {f : Form} {s t u v : List ℕ} → Reads (mark 40) s t → Run f (mark 44) t u → Reads (mark 41) u v → Reads (bracketed f) s v
bracket-reads a (run b d) e = read_right (read_then a (read_then b (read_then d e)))

comma-one : (s : List ℕ) → Reads (mark 44) (skip ((44 ∷ []) ++ s)) (skip s)
unfolding skip is_blank
comma-one s = mark-reads 44 s

module _ {A B : Type 0} (w : Way A B) (b : Back w) (f : Form) (m : Between w 44 (44 ∷ [])) (items : (x : A) (rest : List ℕ) → w.Ok x → Reads f (w.text x ++ rest) (skip rest)) where
  pub brackets-read : (xs : List A) (rest : List ℕ) → Each w.Ok xs → Reads (bracketed f) (skip (bracket_text w.text xs ++ rest)) (skip rest)
  unfolding bracket_text skip is_blank
  brackets-read [] rest o = read_left read_none
  brackets-read (x ∷ xs) rest o =
      of (ap skip (bracket-split w.text x xs rest))
      (bracket-reads (to ((rows_back w b 44 (44 ∷ []) m).begins (x ∷ xs) (41 ∷ rest) o) (mark-reads 40 (row_text w.text (44 ∷ []) (x ∷ xs) ++ (41 ∷ rest))))
      (run_row w b f (mark 44) (44 ∷ []) (λ y t p. run (items y t p) read-end) comma-one (x ∷ xs) (41 ∷ rest) o) (mark-reads 41 rest))

module _ (r : ℕ) (nm : List ℕ) where
  -- ---- literals

  term-written : (t : Term) (rest : List ℕ) → TermOk r nm t → Reads term (term_text r nm t ++ rest) (skip rest)
  term-written t rest o = term-reads (term_text r nm t) rest (term-spelt r nm t o)

  terms-written : (ts : List Term) (rest : List ℕ) → Each (TermOk r nm) ts → Reads (bracketed term) (skip (bracket_text (term_text r nm) ts ++ rest)) (skip rest)
  terms-written = brackets-read (term_way r nm) (terms-back r nm) term (term-commas r nm) term-written

  equals-reads : (a b rest : List ℕ) → Spelt a → Spelt b → Reads literal (a ++ (32 ∷ 61 ∷ 32 ∷ (b ++ rest))) (skip rest)
  unfolding skip is_blank
  equals-reads a b rest p q = read_right (read_then (term-reads a (32 ∷ 61 ∷ 32 ∷ (b ++ rest)) p) (read_then (to (spelt-begins b rest q) (mark-reads 61 (32 ∷ (b ++ rest)))) (term-reads b rest q)))

  pair-written : (ts : List Term) (rest : List ℕ) → length ts ≡ 2 → Each (TermOk r nm) ts → Reads literal (row_text (term_text r nm) equals_mark ts ++ rest) (skip rest)
  pair-written [] rest l o = absurd (omega arith)
  pair-written (a ∷ []) rest l o = absurd (omega arith)
  pair-written (a ∷ b ∷ d ∷ ts) rest l o = absurd (omega arith)
  pair-written (a ∷ b ∷ []) rest l o =
      of (equality-text r nm a b rest) (equals-reads (term_text r nm a) (term_text r nm b) rest (term-spelt r nm a o.0) (term-spelt r nm b o.1.0))

  literal-written : (l : Literal) (rest : List ℕ) → LiteralOk r nm l → Reads literal (literal_text r nm l ++ rest) (skip rest)
  unfolding literal_text
  literal-written l rest o = go (eqb l.rel 255) refl
    where
      go : (b : Bool) → eqb l.rel 255 ≡ b → Reads literal (cond b (row_text (term_text r nm) equals_mark l.args) (entry_name nm l.rel ++ bracket_text (term_text r nm) l.args) ++ rest) (skip rest)
      go true e = pair-written l.args rest (o.pair (eqb-true l.rel 255 e)) o.terms
      go false e =
          let x = entry_name nm l.rel in
          of (append_assoc x (bracket_text (term_text r nm) l.args) rest)
          (read_left (read_then (lower-reads x (bracket_text (term_text r nm) l.args ++ rest) (entry-lower nm l.rel (o.named (eqb-false l.rel 255 e)))) (terms-written l.args rest o.terms)))

  -- ---- goals

  comma-between : (s : List ℕ) → Reads (mark 44 or mark 38) (skip (comma_mark ++ s)) (skip s)
  unfolding skip is_blank
  comma-between s = read_left (mark-reads 44 (32 ∷ s))

  and-between : (s : List ℕ) → Reads (mark 44 or mark 38) (skip (and_mark ++ s)) (skip s)
  unfolding skip is_blank
  and-between s = read_right (mark-reads 38 (32 ∷ s))

  stage-written : (st : List Literal) (rest : List ℕ) → RowOk (LiteralOk r nm) st → Run literal (mark 44 or mark 38) (row_text (literal_text r nm) comma_mark st ++ rest) (skip rest)
  stage-written = run_row (literal_way r nm) (literals-back r nm) literal (mark 44 or mark 38) comma_mark (λ l rest o. run (literal-written l rest o) read-end) comma-between

  whole : {s u : List ℕ} → Run literal (mark 44 or mark 38) s u → Reads goal s u
  whole (run a b) = read_then a b

  goal-written : (st : List Literal) (g : Goal) (rest : List ℕ) → GoalOk r nm (st ∷ g) → Reads goal (goal_text r nm (st ∷ g) ++ rest) (skip rest)
  unfolding goal_text
  goal-written st g rest o = whole (run_row (stage_way r nm) (stages-back r nm) literal (mark 44 or mark 38) and_mark stage-written and-between (st ∷ g) rest o)

  -- where the line ends, there may be none
  body-written : (g : Goal) (q : ℕ) (rest : List ℕ) → GoalOk r nm g → Stops q → Reads (perhaps goal) (skip (goal_text r nm g ++ (q ∷ rest))) (q ∷ rest)
  body-written [] q rest o p = unfold goal_text in unfold row_text in of (skip_stop q rest p) (read_left read_none)
  body-written (st ∷ g) q rest o p = of (goal-begins r nm st g (q ∷ rest) o) (to (skip_stop q rest p) (read_right (goal-written st g (q ∷ rest) o)))

  -- ---- clauses

  abbrev halves_form : Form
  halves_form = perhaps (arrow then goal then perhaps (mark 58 then perhaps goal))

  halves-written : (g b : Goal) (q : ℕ) (rest : List ℕ) → GoalOk r nm g → GoalOk r nm b → Stops q → Reads halves_form (skip (halves_text r nm g b ++ (q ∷ rest))) (q ∷ rest)
  halves-written [] [] q rest o u p = unfold halves_text in of (skip_stop q rest p) (read_left read_none)
  halves-written [] (st ∷ b) q rest o u p =
      let t = goal_text r nm (st ∷ b) ++ (q ∷ rest) in
      of (plain-skip r nm st b (q ∷ rest))
      (read_right (read_then (to (blank_skip r nm t ∙ goal-begins r nm st b (q ∷ rest) u) (arrow-reads (32 ∷ t))) (read_then (to (skip_stop q rest p) (goal-written st b (q ∷ rest) u)) (read_left read_none))))
  halves-written (st ∷ g) b q rest o u p =
      let w = goal_text r nm b ++ (q ∷ rest) in
      let t = goal_text r nm (st ∷ g) ++ (guard_mark ++ w) in
      of (ap skip (guard-split r nm st g b (q ∷ rest)) ∙ arrow-skip r nm t)
      (read_right (read_then (to (blank_skip r nm t ∙ goal-begins r nm st g (guard_mark ++ w) o) (arrow-reads (32 ∷ t)))
      (read_then (to (colon-skip r nm w) (goal-written st g (guard_mark ++ w) o)) (read_right (read_then (to (blank_skip r nm w) (mark-reads 58 (32 ∷ w))) (body-written b q rest u p))))))

  end-written : (m : ℕ) (rest : List ℕ) → Reads (mark 46 or mark 59) (stop_of m ∷ 10 ∷ rest) (skip rest)
  unfolding skip is_blank
  end-written m rest = go (eqb m 1)
    where
      go : (b : Bool) → Reads (mark 46 or mark 59) (cond b 59 46 ∷ 10 ∷ rest) (skip rest)
      go true = unfold skip in unfold is_blank in read_right (mark-reads 59 (10 ∷ rest))
      go false = unfold skip in unfold is_blank in read_left (mark-reads 46 (10 ∷ rest))

  clause-written : (c : Clause) (m : ℕ) (rest : List ℕ) → ClauseOk r nm c → Reads clause (clause_text r nm c m ++ rest) (skip rest)
  clause-written c m rest o =
      let e : List ℕ = stop_of m ∷ 10 ∷ rest in
      let h = halves_text r nm c.guard c.body ++ e in
      of (clause-split r nm c m rest o)
      (read_then (lower-reads (entry_name nm c.rel) (bracket_text (term_text r nm) c.head ++ h) (name-lower r nm c m rest o))
      (read_then (terms-written c.head h o.head) (read_then (halves-written c.guard c.body (stop_of m) (10 ∷ rest) o.guard o.body (stops-by m)) (end-written m rest))))

  clauses-written : (cs : List Clause) (rest : List ℕ) → Each (ClauseOk r nm) cs → skip rest ≡ rest → Reads (many clause) (clauses_text r nm cs ++ rest) rest
  unfolding clauses_text
  clauses-written [] rest o h = read-end
  clauses-written (c ∷ cs) rest o h =
      of (append_assoc (clause_text r nm c (next_mark cs)) (clauses_text r nm cs) rest)
      (read_more (to (clauses-solid r nm cs rest o.1 h) (clause-written c (next_mark cs) (clauses_text r nm cs ++ rest) o.0)) (clauses-written cs rest o.1 h))

  -- ---- mode lines

  mode-written : (m : ℕ) (rest : List ℕ) → Reads (mark 63 or mark 94) (mode_text m ++ rest) (skip rest)
  mode-written m rest = go (is_input m)
    where
      go : (b : Bool) → Reads (mark 63 or mark 94) (cond b 63 94 ∷ rest) (skip rest)
      go true = read_left (mark-reads 63 rest)
      go false = read_right (mark-reads 94 rest)

  blank-word : (s : List ℕ) → Reads (word blank) (32 ∷ s) (skip s)
  unfolding is_blank
  blank-word s = read_then (blank-reads 32 s refl) (skip-reads s)

  stop-written : (rest : List ℕ) → Reads (mark 46) (skip (46 ∷ 10 ∷ rest)) (skip rest)
  unfolding skip is_blank
  stop-written rest = mark-reads 46 (10 ∷ rest)

  mode-line-written : (k : ℕ) (ms rest : List ℕ) → is_entry nm k ≡ true → Reads mode_line (mode_line_text r nm k ms ++ rest) (skip rest)
  mode-line-written k ms rest d =
      let y = entry_name nm k in
      let b = bracket_text mode_text ms ++ (46 ∷ 10 ∷ rest) in
      let p = entry-lower nm k d in
      of (mode-split r nm k ms rest d)
      (read_then (byte_reads 109 _) (read_then (byte_reads 111 _) (read_then (byte_reads 100 _) (read_then (byte_reads 101 _)
      (read_then (to (spelt-begins y b (lower-spelt y p)) (blank-word (y ++ b)))
      (read_then (lower-reads y b p) (read_then (brackets-read mode_way modes-way (mark 63 or mark 94) mode-commas (λ m t o. mode-written m t) ms (46 ∷ 10 ∷ rest) (anything ms)) (stop-written rest))))))))

  mode-lines-written : (k : ℕ) (mss : List (List ℕ)) (rest : List ℕ) → relations_named r nm k mss ≡ true → skip rest ≡ rest → Reads (many mode_line) (mode_lines_text r nm k mss ++ rest) rest
  unfolding mode_lines_text relations_named
  mode-lines-written k [] rest d h = read-end
  mode-lines-written k (ms ∷ mss) rest d h =
      let p = and-true (is_entry nm k) (relations_named r nm (suc k) mss) d in
      of (append_assoc (mode_line_text r nm k ms) (mode_lines_text r nm (suc k) mss) rest)
      (read_more (to (modes-solid r nm (suc k) mss rest h) (mode-line-written k ms (mode_lines_text r nm (suc k) mss ++ rest) p.0)) (mode-lines-written (suc k) mss rest p.1 h))

  -- ---- the goal line, and all of it

  last_written : Reads (mark 46) (46 ∷ 10 ∷ []) []
  unfolding skip is_blank
  last_written = mark-reads 46 (10 ∷ [])

  goal-line-written : (g : Goal) → GoalOk r nm g → Reads goal_line (goal_line_text r nm g) []
  unfolding goal_line_text
  goal-line-written g o = read_then (to (blank_skip r nm (goal_text r nm g ++ stop_mark)) (arrow-reads (32 ∷ (goal_text r nm g ++ stop_mark)))) (read_then (body-written g 46 (10 ∷ []) o stops-46) last_written)

  lines-written : (mss : List (List ℕ)) (cs : List Clause) (g : Goal) → LinesOk r nm mss cs g → ClauseText (mode_lines_text r nm 0 mss ++ (clauses_text r nm cs ++ goal_line_text r nm g))
  unfolding ClauseText text
  lines-written mss cs g o =
      let t = goal_line_text r nm g in
      let u = clauses_text r nm cs ++ t in
      let d = clauses-solid r nm cs t o.clauses (goal-line-solid r nm g) in
      read_then (to (modes-solid r nm 0 mss u d) (skip-reads (mode_lines_text r nm 0 mss ++ u)))
      (read_then (mode-lines-written 0 mss u o.relations d) (read_then (clauses-written cs t o.clauses (goal-line-solid r nm g)) (goal-line-written g o.goal)))

-- THE LAW: the text of a program is a clause text
pub text-right : (nm : List ℕ) (pr : Program) → LinesOk (length pr.relations) nm pr.relations pr.clauses pr.goal → spelling_of (program_text nm pr) ≡ Ok tt
unfolding program_text
text-right nm pr o = right-accepted _ (lines-written (length pr.relations) nm pr.relations pr.clauses pr.goal o)
