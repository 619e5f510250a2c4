-- The lines of a text, and the text, are read back as they were written.
use mathlib.Core.Path.{◌∙◌, ◌≡◌, ap, refl}
use mathlib.Core.Bool.{◌&&◌, ◌||◌, Bool, cond, false, true}
use mathlib.Core.List.{[], ◌++◌, ◌∷◌, append_assoc, List, map}
use Prim.Native.Nat.{◌<◌, ◌≤◌, suc, zero, ℕ}
use lib.Dec.{eqb}
use lib.ListN.{length, length-append}
use borrow.Author.Tests.{lt-leb, ne_eqb}
use native.Mathlib.Omega.{arith}
use Rattle.std.proofs.lemmas.Bool.{and_parts}
use Rattle.parlog.specs.Image.{is_input}
use Rattle.parlog.specs.Orders.{Each}
use Rattle.parlog.specs.Program.{Clause, Goal, Literal, Program}
use Rattle.spell.specs.Forms.{in_span}
use Rattle.text_back.proofs.Begin.{back-of, entry-lower, first_of, front_of, Lower, lower-spelt, skip_at, small_low, spelt-begins, word-all}
use Rattle.text_back.proofs.Items.{goal-begins, goal-first, goal-read, GoalOk, open-no-name, ShutGoal, term-closes, term-commas, TermOk, terms-back, term_way}
use Rattle.text_back.proofs.Rows.{Back, Between, brackets-back, brackets-first, brackets-skip, Way}
use Rattle.text_back.proofs.Said.{said_clause, said_clauses, said_goal, said_modes, said_program}
use Rattle.text_loads.proofs.Decoded.{anything}
use Rattle.text_names.proofs.Looked.{same_self}
use Rattle.text_names.specs.Bytes.{first, front, is_blank, is_capital, is_name, is_small, next, past, skip}
use Rattle.text_names.specs.Entries.{entry_name, is_entry}
use Rattle.text_names.specs.Names.{Name, same_name}
use Rattle.text_program.specs.Printing.{arrow_mark, bracket_text, clauses_text, clause_text, end_mark, goal_line_text, goal_text, guard_mark, halves_text, mode_lines_text, mode_line_text, mode_text, next_mark, program_text, relations_named, row_text, semicolon_mark, stop_mark, term_text}
use Rattle.text_program.specs.Source.{behind_arrow, cons_got, Got, got, Halves, halves_by, is_clause, is_mode_line, lines, lines_for, ModeLine, mode_word, read_body, read_brackets, read_clause, Reader, read_goal, read_halves, read_mode, read_mode_line, read_term, Said, SaidClause, source_of}

-- ---- what ends a line

pub record Stops (q : ℕ) : Type 0 where
  pub name : is_name q ≡ false
  pub blank : is_blank q ≡ false
  pub low : 46 ≤ q
  pub mark : (eqb q 46 || eqb q 59) ≡ true
  pub none : (q ≡ 58 → ⊥) × (q ≡ 60 → ⊥) × (q ≡ 61 → ⊥)

abbrev pub stop_of : ℕ → ℕ
stop_of m = cond (eqb m 1) 59 46

pub stops-46 : Stops 46
unfolding is_name is_small is_capital is_blank
stops-46 = record { name = refl; blank = refl; low = omega arith; mark = refl; none = (λ e. omega arith, λ e. omega arith, λ e. omega arith) }

pub stops-59 : Stops 59
unfolding is_name is_small is_capital is_blank
stops-59 = record { name = refl; blank = refl; low = omega arith; mark = refl; none = (λ e. omega arith, λ e. omega arith, λ e. omega arith) }

pub stops-by : (m : ℕ) → Stops (stop_of m)
stops-by m = go (eqb m 1)
  where
    go : (b : Bool) → Stops (cond b 59 46)
    go true = stops-59
    go false = stops-46

pub end_is : (m : ℕ) → end_mark m ≡ stop_of m ∷ 10 ∷ []
end_is m = go (eqb m 1)
  where
    go : (b : Bool) → cond b semicolon_mark stop_mark ≡ cond b 59 46 ∷ 10 ∷ []
    go true = refl
    go false = refl

stop-semicolon : (m : ℕ) → eqb (stop_of m) 59 ≡ eqb m 1
stop-semicolon m = go (eqb m 1)
  where
    go : (b : Bool) → eqb (cond b 59 46) 59 ≡ b
    go true = refl
    go false = refl

pub skip_stop : (q : ℕ) (s : List ℕ) → Stops q → skip (q ∷ s) ≡ q ∷ s
skip_stop q s p = skip_at (q ∷ s) p.blank

skip-line : (s : List ℕ) → skip (10 ∷ s) ≡ skip s
unfolding skip is_blank
skip-line s = refl

-- ---- lines one after the other

pub lines_none : {A : Type 0} (is : List ℕ → Bool) (read : Reader A) (n : ℕ) (s : List ℕ) → is s ≡ false → lines_for n is read s ≡ got [] s
unfolding lines_for
lines_none is read zero s e = refl
lines_none is read (suc n) s e = rw e

pub lines-one : {A : Type 0} (is : List ℕ → Bool) (read : Reader A) (n : ℕ) (s t : List ℕ) (x : A) → is s ≡ true → read s ≡ got x t → lines_for (suc n) is read s ≡ cons_got x (lines_for n is read t)
unfolding lines_for
lines-one is read n s t x e f = rw (e, f)

-- ---- modes

abbrev mode_value : ℕ → ℕ
mode_value m = cond (is_input m) 0 1

abbrev pub Anything : {A : Type 0} → A → Type 0
Anything x = Unit {0}

abbrev pub mode_way : Way ℕ ℕ
mode_way = record { read = read_mode; text = mode_text; value = mode_value; Ok = Anything; Shut = Anything }

mode-item : (m : ℕ) (rest : List ℕ) → read_mode (mode_text m ++ rest) ≡ got (mode_value m) (skip rest)
mode-item m rest = go (is_input m)
  where
    go : (b : Bool) → read_mode (cond b 63 94 ∷ rest) ≡ got (cond b 0 1) (skip rest)
    go true = refl
    go false = refl

mode-begins : (m : ℕ) (rest : List ℕ) → skip (mode_text m ++ rest) ≡ mode_text m ++ rest
mode-begins m rest = go (is_input m)
  where
    go : (b : Bool) → skip (cond b 63 94 ∷ rest) ≡ cond b 63 94 ∷ rest
    go true = unfold skip in unfold is_blank in refl
    go false = unfold skip in unfold is_blank in refl

pub modes-way : Back mode_way
modes-way = record { item = λ m rest o h. mode-item m rest; begins = λ m rest o. mode-begins m rest; some = λ m o. omega arith }

pub mode-commas : Between mode_way 44 (44 ∷ [])
unfolding skip is_blank
mode-commas = record { shut = λ s. tt; there = λ s. refl; past-it = λ s. refl }

abbrev pub ModeOk : ℕ → Type 0
ModeOk m = m ≤ 1

mode-same : (m : ℕ) → m ≤ 1 → mode_value m ≡ m
mode-same zero h = refl
mode-same (suc zero) h = refl
mode-same (suc (suc m)) h = absurd (omega arith)

modes-same : (ms : List ℕ) → Each ModeOk ms → map mode_value ms ≡ ms
modes-same [] o = refl
modes-same (m ∷ ms) o = rw (mode-same m o.0, modes-same ms o.1)

module _ (r : ℕ) (nm : List ℕ) where
  -- ---- goals at the end of a line

  shut-stop : (q : ℕ) (s : List ℕ) → Stops q → ShutGoal r nm (q ∷ s)
  shut-stop q s p =
      let l = p.low in
      rw (skip_stop q s p)
      ((record { name = p.name; bracket = rw (skip_stop q s p) (λ e. omega arith); equality = rw (skip_stop q s p) p.none.2 }, λ e. omega arith), λ e. omega arith)

  shut-colon : (s : List ℕ) → ShutGoal r nm (32 ∷ 58 ∷ s)
  unfolding is_name is_small is_capital skip is_blank
  shut-colon s = ((record { name = refl; bracket = λ e. omega arith; equality = λ e. omega arith }, λ e. omega arith), λ e. omega arith)

  body-none : (q : ℕ) (s : List ℕ) → Stops q → read_body (q ∷ s) ≡ got [] (q ∷ s)
  unfolding read_body
  body-none q s p = rw p.mark

  body-some : (s : List ℕ) → 65 ≤ first s → read_body s ≡ read_goal s
  unfolding read_body
  body-some s h = rw (ne_eqb (first s) 46 (λ e. omega arith), ne_eqb (first s) 59 (λ e. omega arith))

  pub body_back : (g : Goal) (q : ℕ) (rest : List ℕ) → GoalOk r nm g → Stops q → read_body (skip (goal_text r nm g ++ (q ∷ rest))) ≡ got (said_goal r nm g) (q ∷ rest)
  body_back [] q rest o p = unfold goal_text in unfold row_text in ap read_body (skip_stop q rest p) ∙ body-none q rest p
  body_back (st ∷ g) q rest o p =
      ap read_body (goal-begins r nm st g (q ∷ rest) o)
      ∙ body-some (goal_text r nm (st ∷ g) ++ (q ∷ rest)) (goal-first r nm st g (q ∷ rest) o)
      ∙ goal-read r nm st g (q ∷ rest) o (shut-stop q rest p)
      ∙ ap (got (said_goal r nm (st ∷ g))) (skip_stop q rest p)

  -- ---- halves

  no-arrow : (s : List ℕ) → (first s ≡ 60 → ⊥) → read_halves s ≡ got (record { guard = []; body = [] }) s
  unfolding read_halves
  no-arrow s h = rw (ne_eqb (first s) 60 h)

  arrow-read : (t : List ℕ) (g : Got (List (List Said))) (b : Bool) → read_goal (skip t) ≡ g → eqb (first g.rest) 58 ≡ b → read_halves (60 ∷ 45 ∷ t) ≡ halves_by b g
  unfolding read_halves
  arrow-read t g b e f = rw (e, f)

  pub arrow-skip : (s : List ℕ) → skip (arrow_mark ++ s) ≡ 60 ∷ 45 ∷ 32 ∷ s
  unfolding skip is_blank
  arrow-skip s = refl

  pub blank_skip : (s : List ℕ) → skip (32 ∷ s) ≡ skip s
  unfolding skip is_blank
  blank_skip s = refl

  pub colon-skip : (s : List ℕ) → skip (guard_mark ++ s) ≡ 58 ∷ 32 ∷ s
  unfolding skip is_blank
  colon-skip s = refl

  pub guard-split : (st : List Literal) (g b : Goal) (rest : List ℕ) → halves_text r nm (st ∷ g) b ++ rest ≡ arrow_mark ++ (goal_text r nm (st ∷ g) ++ (guard_mark ++ (goal_text r nm b ++ rest)))
  unfolding halves_text
  guard-split st g b rest = ap (λ (z : List ℕ). arrow_mark ++ z) (append_assoc (goal_text r nm (st ∷ g)) (guard_mark ++ goal_text r nm b) rest)

  pub plain-skip : (st : List Literal) (b : Goal) (rest : List ℕ) → skip (halves_text r nm [] (st ∷ b) ++ rest) ≡ 60 ∷ 45 ∷ 32 ∷ (goal_text r nm (st ∷ b) ++ rest)
  unfolding halves_text
  plain-skip st b rest = arrow-skip (goal_text r nm (st ∷ b) ++ rest)

  abbrev halves : Goal → Goal → Halves
  halves g b = record { guard = said_goal r nm g; body = said_goal r nm b }

  halves-back : (g b : Goal) (q : ℕ) (rest : List ℕ) → GoalOk r nm g → GoalOk r nm b → Stops q → read_halves (skip (halves_text r nm g b ++ (q ∷ rest))) ≡ got (halves g b) (q ∷ rest)
  halves-back [] [] q rest o u p = unfold halves_text in ap read_halves (skip_stop q rest p) ∙ no-arrow (q ∷ rest) p.none.1
  halves-back [] (st ∷ b) q rest o u p =
      let t = goal_text r nm (st ∷ b) ++ (q ∷ rest) in
      let f : read_goal (skip (32 ∷ t)) ≡ got (said_goal r nm (st ∷ b)) (q ∷ rest) =
      ap read_goal (blank_skip t ∙ goal-begins r nm st b (q ∷ rest) u) ∙ goal-read r nm st b (q ∷ rest) u (shut-stop q rest p) ∙ ap (got (said_goal r nm (st ∷ b))) (skip_stop q rest p) in
      ap read_halves (plain-skip st b (q ∷ rest)) ∙ arrow-read (32 ∷ t) (got (said_goal r nm (st ∷ b)) (q ∷ rest)) false f (ne_eqb q 58 p.none.0)
  halves-back (st ∷ g) b q rest o u p =
      let w = goal_text r nm b ++ (q ∷ rest) in
      let t = goal_text r nm (st ∷ g) ++ (guard_mark ++ w) in
      let f : read_goal (skip (32 ∷ t)) ≡ got (said_goal r nm (st ∷ g)) (58 ∷ 32 ∷ w) =
      ap read_goal (blank_skip t ∙ goal-begins r nm st g (guard_mark ++ w) o) ∙ goal-read r nm st g (guard_mark ++ w) o (shut-colon (32 ∷ w)) ∙ ap (got (said_goal r nm (st ∷ g))) (colon-skip w) in
      ap read_halves (ap skip (guard-split st g b (q ∷ rest)) ∙ arrow-skip t)
      ∙ arrow-read (32 ∷ t) (got (said_goal r nm (st ∷ g)) (58 ∷ 32 ∷ w)) true f refl
      ∙ ap (λ (y : Got (List (List Said))). got (record { guard = said_goal r nm (st ∷ g); body = y.value }) y.rest) (ap read_body (blank_skip w) ∙ body_back b q rest u p)

  -- what stands behind a head: its first byte, and its first byte that is no blank
  halves-first : (g b : Goal) (q : ℕ) (rest : List ℕ) (P : ℕ → Type 0) → P q → P 32 → P (first (halves_text r nm g b ++ (q ∷ rest)))
  unfolding halves_text
  halves-first [] [] q rest P a c = a
  halves-first [] (st ∷ b) q rest P a c = c
  halves-first (st ∷ g) b q rest P a c = c

  halves-skip : (g b : Goal) (q : ℕ) (rest : List ℕ) (P : ℕ → Type 0) → Stops q → P q → P 60 → P (first (skip (halves_text r nm g b ++ (q ∷ rest))))
  unfolding halves_text skip is_blank
  halves-skip [] [] q rest P p a c = rw p.blank a
  halves-skip [] (st ∷ b) q rest P p a c = c
  halves-skip (st ∷ g) b q rest P p a c = c

  blank-no-name : is_name 32 ≡ false
  unfolding is_name is_small is_capital
  blank-no-name = refl

  -- ---- clauses

  pub record ClauseOk (c : Clause) : Type 0 where
    pub named : is_entry nm c.rel ≡ true
    pub head : Each (TermOk r nm) c.head
    pub guard : GoalOk r nm c.guard
    pub body : GoalOk r nm c.body

  clause-read : (s x u : List ℕ) (h : Got (List Name)) (g : Got Halves) → front s ≡ x → past s ≡ u → read_brackets read_term u ≡ h → read_halves h.rest ≡ g →
      read_clause s ≡ got (record { name = x; terms = h.value; guard = g.value.guard; body = g.value.body; semicolon = eqb (first g.rest) 59 }) (next g.rest)
  unfolding read_clause
  clause-read s x u h g e f k l = rw (e, f, k, l)

  module _ (c : Clause) (m : ℕ) (rest : List ℕ) (o : ClauseOk c) where
    abbrev x : Name
    x = entry_name nm c.rel

    abbrev ending : List ℕ
    ending = stop_of m ∷ 10 ∷ rest

    abbrev behind_head : List ℕ
    behind_head = halves_text r nm c.guard c.body ++ ending

    abbrev behind_name : List ℕ
    behind_name = bracket_text (term_text r nm) c.head ++ behind_head

    pub clause-split : clause_text r nm c m ++ rest ≡ x ++ behind_name
    unfolding clause_text
    clause-split =
        let b = bracket_text (term_text r nm) c.head in
        let h = halves_text r nm c.guard c.body in
        append_assoc x (b ++ (h ++ end_mark m)) rest
        ∙ ap (λ (z : List ℕ). x ++ z) (append_assoc b (h ++ end_mark m) rest ∙ ap (λ (z : List ℕ). b ++ z) (append_assoc h (end_mark m) rest ∙ ap (λ (z : List ℕ). h ++ (z ++ rest)) (end_is m)))

    pub name-lower : Lower x
    name-lower = entry-lower nm c.rel o.named

    pub shut-name : is_name (first behind_name) ≡ false
    shut-name =
        brackets-first (term_way r nm) (terms-back r nm) (term-commas r nm) (term-closes r nm) c.head behind_head (λ b. is_name b ≡ false) (open-no-name r nm)
        (halves-first c.guard c.body (stop_of m) (10 ∷ rest) (λ b. is_name b ≡ false) (stops-by m).name blank-no-name)

    -- behind the name of a clause no name begins
    pub no-name-behind : is_small (first (skip behind_name)) ≡ false
    unfolding is_small
    no-name-behind =
        let low : (q : ℕ) → q < 97 → in_span 97 25 q ≡ false = λ q h. rw (lt-leb 97 q h) in
        brackets-skip (term_way r nm) (terms-back r nm) (term-commas r nm) (term-closes r nm) c.head behind_head (λ b. in_span 97 25 b ≡ false) (low 40 (omega arith))
        (halves-skip c.guard c.body (stop_of m) (10 ∷ rest) (λ b. in_span 97 25 b ≡ false) (stops-by m) (stop-low (eqb m 1)) (low 60 (omega arith)))
      where
        stop-low : (b : Bool) → in_span 97 25 (cond b 59 46) ≡ false
        stop-low true = refl
        stop-low false = refl

    head-back : read_brackets read_term (skip behind_name) ≡ got (map (term_text r nm) c.head) (skip behind_head)
    head-back =
        brackets-back (term_way r nm) (terms-back r nm) (term-commas r nm) (term-closes r nm) c.head behind_head o.head
        (halves-skip c.guard c.body (stop_of m) (10 ∷ rest) (λ b. b ≡ 40 → ⊥) (stops-by m) (λ e. let l = (stops-by m).low in omega arith) (λ e. omega arith))

    pub clause-front : front (x ++ behind_name) ≡ x
    clause-front = front_of x behind_name name-lower.all shut-name

    pub clause-past : past (x ++ behind_name) ≡ skip behind_name
    clause-past = ap skip (back-of x behind_name name-lower.all shut-name)

    pub clause-back : read_clause (clause_text r nm c m ++ rest) ≡ got (said_clause r nm c m) (skip rest)
    clause-back =
        ap read_clause clause-split
        ∙ clause-read (x ++ behind_name) x (skip behind_name) _ (got (halves c.guard c.body) ending) clause-front clause-past
        head-back (halves-back c.guard c.body (stop_of m) (10 ∷ rest) o.guard o.body (stops-by m))
        ∙ rw (stop-semicolon m, skip-line rest)

    pub is-clause : is_clause (clause_text r nm c m ++ rest) ≡ true
    unfolding is_clause
    is-clause =
        let p = lower-spelt x name-lower in
        let h = small_low (first x) name-lower.small in
        let e : first (clause_text r nm c m ++ rest) ≡ first x = ap (λ (z : List ℕ). first z) clause-split ∙ first_of x behind_name p in
        rw (e, ne_eqb (first x) 60 (λ z. omega arith))

    pub no-mode-line : is_mode_line (clause_text r nm c m ++ rest) ≡ false
    unfolding is_mode_line
    no-mode-line = rw (clause-split, clause-past, no-name-behind) (go (same_name (front (x ++ behind_name)) mode_word))
      where
        go : (b : Bool) → (b && false) ≡ false
        go true = refl
        go false = refl

    pub clause-solid : skip (clause_text r nm c m ++ rest) ≡ clause_text r nm c m ++ rest
    clause-solid = rw clause-split (spelt-begins x behind_name (lower-spelt x name-lower))

  clauses-long : (cs : List Clause) (rest : List ℕ) → length cs ≤ length (clauses_text r nm cs ++ rest)
  unfolding clauses_text clause_text
  clauses-long [] rest = omega arith
  clauses-long (c ∷ cs) rest =
      let m = next_mark cs in
      let x = entry_name nm c.rel in
      let b = bracket_text (term_text r nm) c.head in
      let h = halves_text r nm c.guard c.body in
      let z = end_is m in
      let y : length (end_mark m) ≡ 2 = ap (λ (u : List ℕ). length u) z in
      omega (
        arith,
        clauses-long cs rest,
        length-append ((x ++ (b ++ (h ++ end_mark m))) ++ clauses_text r nm cs) rest,
        length-append (x ++ (b ++ (h ++ end_mark m))) (clauses_text r nm cs),
        length-append x (b ++ (h ++ end_mark m)),
        length-append b (h ++ end_mark m),
        length-append h (end_mark m),
        length-append (clauses_text r nm cs) rest,
      )

  pub clauses-solid : (cs : List Clause) (rest : List ℕ) → Each ClauseOk cs → skip rest ≡ rest → skip (clauses_text r nm cs ++ rest) ≡ clauses_text r nm cs ++ rest
  unfolding clauses_text
  clauses-solid [] rest o h = h
  clauses-solid (c ∷ cs) rest o h = rw (append_assoc (clause_text r nm c (next_mark cs)) (clauses_text r nm cs) rest) (clause-solid c (next_mark cs) (clauses_text r nm cs ++ rest) o.0)

  clauses-back : (n : ℕ) (cs : List Clause) (rest : List ℕ) → length cs ≤ n → Each ClauseOk cs → skip rest ≡ rest → is_clause rest ≡ false →
      lines_for n is_clause read_clause (clauses_text r nm cs ++ rest) ≡ got (said_clauses r nm cs) rest
  unfolding clauses_text said_clauses
  clauses-back n [] rest l o h e = lines_none is_clause read_clause n rest e
  clauses-back zero (c ∷ cs) rest l o h e = absurd (omega arith)
  clauses-back (suc n) (c ∷ cs) rest l o h e =
      let m = next_mark cs in
      let t = clauses_text r nm cs ++ rest in
      ap (lines_for (suc n) is_clause read_clause) (append_assoc (clause_text r nm c m) (clauses_text r nm cs) rest)
      ∙ lines-one is_clause read_clause n (clause_text r nm c m ++ t) t (said_clause r nm c m) (is-clause c m t o.0) (clause-back c m t o.0 ∙ ap (got (said_clause r nm c m)) (clauses-solid cs rest o.1 h))
      ∙ ap (cons_got (said_clause r nm c m)) (clauses-back n cs rest (omega arith) o.1 h e)

  -- ---- mode lines

  module _ (k : ℕ) (ms rest : List ℕ) (named : is_entry nm k ≡ true) where
    abbrev y : Name
    y = entry_name nm k

    abbrev behind_mode : List ℕ
    behind_mode = bracket_text mode_text ms ++ (46 ∷ 10 ∷ rest)

    pub mode-split : mode_line_text r nm k ms ++ rest ≡ mode_word ++ (32 ∷ (y ++ behind_mode))
    unfolding mode_line_text
    mode-split =
        let b = bracket_text mode_text ms in
        ap (λ (z : List ℕ). mode_word ++ (32 ∷ z)) (append_assoc y (b ++ stop_mark) rest ∙ ap (λ (z : List ℕ). y ++ z) (append_assoc b stop_mark rest))

    mode-lower : Lower y
    mode-lower = entry-lower nm k named

    mode-past : past (mode_word ++ (32 ∷ (y ++ behind_mode))) ≡ y ++ behind_mode
    mode-past = ap skip (back-of mode_word (32 ∷ (y ++ behind_mode)) word-all blank-no-name) ∙ blank_skip (y ++ behind_mode) ∙ spelt-begins y behind_mode (lower-spelt y mode-lower)

    mode-shut : is_name (first behind_mode) ≡ false
    mode-shut = brackets-first mode_way modes-way mode-commas (λ s. tt) ms (46 ∷ 10 ∷ rest) (λ b. is_name b ≡ false) (open-no-name r nm) stops-46.name

    mode-read : (s t x u : List ℕ) (g : Got (List ℕ)) → past s ≡ t → front t ≡ x → past t ≡ u → read_brackets read_mode u ≡ g → read_mode_line s ≡ got (record { name = x; modes = g.value }) (next g.rest)
    unfolding read_mode_line
    mode-read s t x u g e f h i = rw (e, f, h, i)

    pub mode-back : Each ModeOk ms → read_mode_line (mode_line_text r nm k ms ++ rest) ≡ got (record { name = y; modes = ms }) (skip rest)
    mode-back o =
        let d = skip_stop 46 (10 ∷ rest) stops-46 in
        ap read_mode_line mode-split
        ∙ mode-read (mode_word ++ (32 ∷ (y ++ behind_mode))) (y ++ behind_mode) y (skip behind_mode) (got ms (46 ∷ 10 ∷ rest)) mode-past (front_of y behind_mode mode-lower.all mode-shut) (ap skip (back-of y behind_mode mode-lower.all mode-shut))
        (brackets-back mode_way modes-way mode-commas (λ s. tt) ms (46 ∷ 10 ∷ rest) (anything ms) (rw d (λ e. omega arith)) ∙ rw (modes-same ms o, d))
        ∙ ap (got (record { name = y; modes = ms })) (skip-line rest)

    pub is-mode-line : is_mode_line (mode_line_text r nm k ms ++ rest) ≡ true
    unfolding is_mode_line
    is-mode-line =
        let p = lower-spelt y mode-lower in
        rw (mode-split, front_of mode_word (32 ∷ (y ++ behind_mode)) word-all blank-no-name, same_self mode_word, mode-past, first_of y behind_mode p) mode-lower.small

  modes-long : (k : ℕ) (mss : List (List ℕ)) (rest : List ℕ) → length mss ≤ length (mode_lines_text r nm k mss ++ rest)
  unfolding mode_lines_text mode_line_text
  modes-long k [] rest = omega arith
  modes-long k (ms ∷ mss) rest =
      let t : List ℕ = 32 ∷ (entry_name nm k ++ (bracket_text mode_text ms ++ stop_mark)) in
      omega (
        arith,
        modes-long (suc k) mss rest,
        length-append ((mode_word ++ t) ++ mode_lines_text r nm (suc k) mss) rest,
        length-append (mode_word ++ t) (mode_lines_text r nm (suc k) mss),
        length-append mode_word t,
        length-append (mode_lines_text r nm (suc k) mss) rest,
      )

  pub modes-solid : (k : ℕ) (mss : List (List ℕ)) (rest : List ℕ) → skip rest ≡ rest → skip (mode_lines_text r nm k mss ++ rest) ≡ mode_lines_text r nm k mss ++ rest
  unfolding mode_lines_text mode_line_text skip is_blank
  modes-solid k [] rest h = h
  modes-solid k (ms ∷ mss) rest h = refl

  modes-back : (n k : ℕ) (mss : List (List ℕ)) (rest : List ℕ) → length mss ≤ n → Each (Each ModeOk) mss → relations_named r nm k mss ≡ true → skip rest ≡ rest → is_mode_line rest ≡ false →
      lines_for n is_mode_line read_mode_line (mode_lines_text r nm k mss ++ rest) ≡ got (said_modes r nm k mss) rest
  unfolding mode_lines_text said_modes relations_named
  modes-back n k [] rest l o d h e = lines_none is_mode_line read_mode_line n rest e
  modes-back zero k (ms ∷ mss) rest l o d h e = absurd (omega arith)
  modes-back (suc n) k (ms ∷ mss) rest l o d h e =
      let t = mode_lines_text r nm (suc k) mss ++ rest in
      let v : ModeLine = record { name = entry_name nm k; modes = ms } in
      let p = and_parts (is_entry nm k) (relations_named r nm (suc k) mss) d in
      ap (lines_for (suc n) is_mode_line read_mode_line) (append_assoc (mode_line_text r nm k ms) (mode_lines_text r nm (suc k) mss) rest)
      ∙ lines-one is_mode_line read_mode_line n (mode_line_text r nm k ms ++ t) t v (is-mode-line k ms t p.0) (mode-back k ms t p.0 o.0 ∙ ap (got v) (modes-solid (suc k) mss rest h))
      ∙ ap (cons_got v) (modes-back n (suc k) mss rest (omega arith) o.1 p.1 h e)

  -- ---- the goal line

  pub goal-line-solid : (g : Goal) → skip (goal_line_text r nm g) ≡ goal_line_text r nm g
  unfolding goal_line_text skip is_blank
  goal-line-solid g = refl

  goal-line-no-clause : (g : Goal) → is_clause (goal_line_text r nm g) ≡ false
  unfolding goal_line_text is_clause
  goal-line-no-clause g = refl

  goal-line-no-mode : (g : Goal) → is_mode_line (goal_line_text r nm g) ≡ false
  unfolding goal_line_text is_mode_line front is_name is_small is_capital same_name
  goal-line-no-mode g = refl

  goal-line-back : (g : Goal) → GoalOk r nm g → (read_body (behind_arrow (goal_line_text r nm g))).value ≡ said_goal r nm g
  unfolding goal_line_text
  goal-line-back g o = ap (λ (y : Got (List (List Said))). y.value) (ap read_body (blank_skip (goal_text r nm g ++ stop_mark)) ∙ body_back g 46 (10 ∷ []) o stops-46)

  -- behind the mode lines no further one begins
  no-mode-behind : (cs : List Clause) (g : Goal) → Each ClauseOk cs → is_mode_line (clauses_text r nm cs ++ goal_line_text r nm g) ≡ false
  unfolding clauses_text
  no-mode-behind [] g o = goal-line-no-mode g
  no-mode-behind (c ∷ cs) g o = rw (append_assoc (clause_text r nm c (next_mark cs)) (clauses_text r nm cs) (goal_line_text r nm g)) (no-mode-line c (next_mark cs) (clauses_text r nm cs ++ goal_line_text r nm g) o.0)

  -- ---- all lines

  pub record LinesOk (mss : List (List ℕ)) (cs : List Clause) (g : Goal) : Type 0 where
    pub modes : Each (Each ModeOk) mss
    pub relations : relations_named r nm 0 mss ≡ true
    pub clauses : Each ClauseOk cs
    pub goal : GoalOk r nm g

  source-read : (s : List ℕ) (m : Got (List ModeLine)) (c : Got (List SaidClause)) (g : List (List Said)) → skip s ≡ s → lines is_mode_line read_mode_line s ≡ m → lines is_clause read_clause m.rest ≡ c → (read_body (behind_arrow c.rest)).value ≡ g →
      source_of s ≡ record { modes = m.value; clauses = c.value; goal = g }
  unfolding source_of
  source-read s m c g e f h k = rw (e, f, h, k)

  pub lines-back : (mss : List (List ℕ)) (cs : List Clause) (g : Goal) → LinesOk mss cs g →
      source_of (mode_lines_text r nm 0 mss ++ (clauses_text r nm cs ++ goal_line_text r nm g)) ≡ record { modes = said_modes r nm 0 mss; clauses = said_clauses r nm cs; goal = said_goal r nm g }
  lines-back mss cs g o =
      let t = goal_line_text r nm g in
      let u = clauses_text r nm cs ++ t in
      let s = mode_lines_text r nm 0 mss ++ u in
      let d = clauses-solid cs t o.clauses (goal-line-solid g) in
      source-read s (got (said_modes r nm 0 mss) u) (got (said_clauses r nm cs) t) (said_goal r nm g) (modes-solid 0 mss u d)
      (modes-back (length s) 0 mss u (modes-long 0 mss u) o.modes o.relations d (no-mode-behind cs g o.clauses))
      (clauses-back (length u) cs t (clauses-long cs t) o.clauses (goal-line-solid g) (goal-line-no-clause g))
      (goal-line-back g o.goal)

-- THE LAW: the text of a program says what the program has
pub text-back : (nm : List ℕ) (pr : Program) → LinesOk (length pr.relations) nm pr.relations pr.clauses pr.goal → source_of (program_text nm pr) ≡ said_program nm pr
unfolding program_text said_program
text-back nm pr o = lines-back (length pr.relations) nm pr.relations pr.clauses pr.goal o
