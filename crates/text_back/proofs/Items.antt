-- Terms, literals and goals are read back as they were written.
use mathlib.Core.Path.{◌∙◌, ◌≡◌, ap, refl, sym}
use mathlib.Core.Bool.{Bool, cond, false, true}
use mathlib.Core.List.{[], ◌++◌, ◌∷◌, append_assoc, List, map}
use Prim.Native.Nat.{◌%◌, ◌+◌, ◌<◌, ◌≤◌, ℕ}
use lib.Dec.{eqb}
use lib.ListN.{length, length-append}
use borrow.Author.Tests.{eq-eqb, eqb-false, eqb-true, le-leb, ne_eqb}
use native.Mathlib.Omega.{arith}
use Rattle.std.proofs.lemmas.Bool.{or_right}
use Rattle.parlog.specs.Orders.{Each}
use Rattle.parlog.specs.Program.{Goal, Literal}
use Rattle.parlog.specs.declared.Term.{Term}
use Rattle.parlog.specs.declared.Term.TheVariants.{Const, Var}
use Rattle.text_back.proofs.Begin.{all_name, back-of, capital-name, entry-lower, first_of, front_of, letter-high, Lower, lower-spelt, Spelt, spelt-begins, spelt-some}
use Rattle.text_back.proofs.Rows.{Back, Between, brackets-back, brackets-first, brackets-skip, rest_more, row-split, RowOk, rows_back, row_way, Way}
use Rattle.text_back.proofs.Said.{said, said_by, said_goal}
use Rattle.text_names.specs.Bytes.{first, front, is_blank, is_capital, is_name, is_small, next, past, skip}
use Rattle.text_names.specs.Entries.{entry_name, is_entry}
use Rattle.text_names.specs.Names.{Name}
use Rattle.text_program.specs.Numbered.{joined}
use Rattle.text_program.specs.Printing.{and_mark, bracket_text, comma_mark, equals_mark, goal_text, literal_text, rest_text, row_text, term_named, term_text}
use Rattle.text_program.specs.Source.{calls, equals, Got, got, literal_by, read_brackets, read_goal, read_literal, read_term, Said}

module _ (r : ℕ) (nm : List ℕ) where
  -- ---- terms

  letter-of : (v : ℕ) → Spelt ((65 + v % 16) ∷ [])
  unfolding all_name is_capital
  letter-of v =
      let h : v % 16 < 16 = omega arith in
      let e : is_capital (65 + v % 16) ≡ true = rw (le-leb 65 (65 + v % 16) (omega arith), le-leb (65 + v % 16) (65 + 25) (omega arith)) in
      record { all = rw (capital-name (65 + v % 16) e); letter = or_right (is_small (65 + v % 16)) _ e }

  pub term-spelt : (t : Term) → term_named r nm t ≡ true → Spelt (term_text r nm t)
  unfolding term_named term_text
  term-spelt (Const c) e = lower-spelt (entry_name nm (r + c)) (entry-lower nm (r + c) e)
  term-spelt (Var v) e = letter-of v

  abbrev pub TermOk : Term → Type 0
  TermOk t = term_named r nm t ≡ true

  abbrev pub ShutName : List ℕ → Type 0
  ShutName s = is_name (first s) ≡ false

  abbrev pub term_way : Way Term Name
  term_way = record { read = read_term; text = term_text r nm; value = term_text r nm; Ok = TermOk; Shut = ShutName }

  name-read : (x rest : List ℕ) → Spelt x → is_name (first rest) ≡ false → read_term (x ++ rest) ≡ got x (skip rest)
  unfolding read_term
  name-read x rest p h = rw (front_of x rest p.all h, back-of x rest p.all h)

  pub terms-back : Back term_way
  terms-back = record {
    item = λ t rest o h. name-read (term_text r nm t) rest (term-spelt t o) h;
    begins = λ t rest o. spelt-begins (term_text r nm t) rest (term-spelt t o);
    some = λ t o. spelt-some (term_text r nm t) (term-spelt t o);
  }

  pub term-commas : Between term_way 44 (44 ∷ [])
  unfolding is_name is_small is_capital skip is_blank
  term-commas = record { shut = λ s. refl; there = λ s. refl; past-it = λ s. refl }

  pub term-closes : (s : List ℕ) → ShutName (41 ∷ s)
  unfolding is_name is_small is_capital
  term-closes s = refl

  -- ---- literals

  -- what may not follow a literal: more of its name, brackets or `=`
  pub record ShutLiteral (s : List ℕ) : Type 0 where
    pub name : is_name (first s) ≡ false
    pub bracket : first (skip s) ≡ 40 → ⊥
    pub equality : first (skip s) ≡ 61 → ⊥

  pub record LiteralOk (l : Literal) : Type 0 where
    pub terms : Each TermOk l.args
    pub pair : l.rel ≡ 255 → length l.args ≡ 2
    pub named : (l.rel ≡ 255 → ⊥) → is_entry nm l.rel ≡ true

  abbrev pub literal_way : Way Literal Said
  literal_way = record { read = read_literal; text = literal_text r nm; value = said r nm; Ok = LiteralOk; Shut = ShutLiteral }

  is-equation : (s : List ℕ) → first (past s) ≡ 61 → read_literal s ≡ literal_by true s
  unfolding read_literal
  is-equation s e = rw (eq-eqb _ _ e)

  is_call : (s x t : List ℕ) → front s ≡ x → past s ≡ t → (first t ≡ 61 → ⊥) → (g : Got (List Name)) → read_brackets read_term t ≡ g → read_literal s ≡ got (calls x g.value) g.rest
  unfolding read_literal
  is_call s x t e f h g k = let n : first (past s) ≡ 61 → ⊥ = λ z. h (ap (λ (u : List ℕ). first u) (sym f) ∙ z) in rw (ne_eqb _ _ n, e, f, k)

  pair_read : (a x b rest : List ℕ) → Spelt a → Spelt b → is_name (first rest) ≡ false → x ≡ a ++ (32 ∷ 61 ∷ 32 ∷ (b ++ rest)) → read_literal x ≡ got (equals a b) (skip rest)
  unfolding is_name is_small is_capital skip is_blank
  pair_read a x b rest p q h e =
      let t : List ℕ = 32 ∷ 61 ∷ 32 ∷ (b ++ rest) in
      let f : past (a ++ t) ≡ 61 ∷ 32 ∷ (b ++ rest) = ap skip (back-of a t p.all refl) in
      let k : next (past (a ++ t)) ≡ b ++ rest = ap next f ∙ spelt-begins b rest q in
      rw e
      (is-equation (a ++ t) (ap (λ (u : List ℕ). first u) f)
      ∙ rw (front_of a t p.all refl, k, name-read b rest q h))

  pub equality-text : (a b : Term) (rest : List ℕ) → row_text (term_text r nm) equals_mark (a ∷ b ∷ []) ++ rest ≡ term_text r nm a ++ (32 ∷ 61 ∷ 32 ∷ (term_text r nm b ++ rest))
  unfolding joined
  equality-text a b rest = row-split (term_text r nm) equals_mark a (b ∷ []) rest ∙ ap (λ (s : List ℕ). term_text r nm a ++ s) (rest_more (term_text r nm) equals_mark b [] rest)

  pair-back : (ts : List Term) (rest : List ℕ) → length ts ≡ 2 → Each TermOk ts → ShutLiteral rest →
      read_literal (row_text (term_text r nm) equals_mark ts ++ rest) ≡ got (said_by r nm true (record { rel = 255; args = ts })) (skip rest)
  pair-back [] rest l o h = absurd (omega arith)
  pair-back (a ∷ []) rest l o h = absurd (omega arith)
  pair-back (a ∷ b ∷ d ∷ ts) rest l o h = absurd (omega arith)
  pair-back (a ∷ b ∷ []) rest l o h =
      pair_read (term_text r nm a) _ (term_text r nm b) rest (term-spelt a o.0) (term-spelt b o.1.0) h.name (equality-text a b rest)

  pub open-no-name : is_name 40 ≡ false
  unfolding is_name is_small is_capital
  open-no-name = refl

  call_back : (x : Name) (ts : List Term) (rest : List ℕ) → Lower x → Each TermOk ts → ShutLiteral rest →
      read_literal ((x ++ bracket_text (term_text r nm) ts) ++ rest) ≡ got (calls x (map (term_text r nm) ts)) (skip rest)
  call_back x ts rest p o h =
      let u = bracket_text (term_text r nm) ts ++ rest in
      let n : is_name (first u) ≡ false = brackets-first term_way terms-back term-commas term-closes ts rest (λ c. is_name c ≡ false) open-no-name h.name in
      let q : first (skip u) ≡ 61 → ⊥ = brackets-skip term_way terms-back term-commas term-closes ts rest (λ c. c ≡ 61 → ⊥) (λ e. omega arith) h.equality in
      ap read_literal (append_assoc x (bracket_text (term_text r nm) ts) rest)
      ∙ is_call (x ++ u) x (skip u) (front_of x u p.all n) (ap skip (back-of x u p.all n)) q _ (brackets-back term_way terms-back term-commas term-closes ts rest o h.bracket)

  literal-item : (l : Literal) (rest : List ℕ) → LiteralOk l → ShutLiteral rest → read_literal (literal_text r nm l ++ rest) ≡ got (said r nm l) (skip rest)
  unfolding literal_text said
  literal-item l rest o h = go (eqb l.rel 255) refl
    where
      go : (b : Bool) → eqb l.rel 255 ≡ b →
          read_literal (cond b (row_text (term_text r nm) equals_mark l.args) (entry_name nm l.rel ++ bracket_text (term_text r nm) l.args) ++ rest) ≡ got (said_by r nm b l) (skip rest)
      go true e = pair-back l.args rest (o.pair (eqb-true l.rel 255 e)) o.terms h
      go false e = call_back (entry_name nm l.rel) l.args rest (entry-lower nm l.rel (o.named (eqb-false l.rel 255 e))) o.terms h

  -- how a literal begins
  pub literal-front : (l : Literal) → LiteralOk l → (x : Name) × (t : List ℕ) × Spelt x × (literal_text r nm l ≡ x ++ t)
  unfolding literal_text
  literal-front l o = go (eqb l.rel 255) refl
    where
      pair : (ts : List Term) → length ts ≡ 2 → Each TermOk ts → (x : Name) × (t : List ℕ) × Spelt x × (row_text (term_text r nm) equals_mark ts ≡ x ++ t)
      pair [] e p = absurd (omega arith)
      pair (a ∷ ts) e p = (term_text r nm a, rest_text (term_text r nm) equals_mark ts, term-spelt a p.0, unfold row_text in refl)

      go : (b : Bool) → eqb l.rel 255 ≡ b → (x : Name) × (t : List ℕ) × Spelt x × (cond b (row_text (term_text r nm) equals_mark l.args) (entry_name nm l.rel ++ bracket_text (term_text r nm) l.args) ≡ x ++ t)
      go true e = pair l.args (o.pair (eqb-true l.rel 255 e)) o.terms
      go false e = (entry_name nm l.rel, bracket_text (term_text r nm) l.args, lower-spelt _ (entry-lower nm l.rel (o.named (eqb-false l.rel 255 e))), refl)

  literal-begins : (l : Literal) (rest : List ℕ) → LiteralOk l → skip (literal_text r nm l ++ rest) ≡ literal_text r nm l ++ rest
  literal-begins l rest o = let (x, t, p, e) = literal-front l o in rw (e, append_assoc x t rest) (spelt-begins x (t ++ rest) p)

  literal-some : (l : Literal) → LiteralOk l → 0 < length (literal_text r nm l)
  literal-some l o = let (x, t, p, e) = literal-front l o in rw e (omega (arith, spelt-some x p, length-append x t))

  pub literals-back : Back literal_way
  literals-back = record { item = literal-item; begins = literal-begins; some = literal-some }

  -- ---- stages and goals: the same law of rows, twice

  pub literal-commas : Between literal_way 44 comma_mark
  unfolding is_name is_small is_capital skip is_blank
  literal-commas = record { shut = λ s. record { name = refl; bracket = λ e. omega arith; equality = λ e. omega arith }; there = λ s. refl; past-it = λ s. refl }

  abbrev pub stage_way : Way (List Literal) (List Said)
  stage_way = row_way literal_way 44 comma_mark

  pub stages-back : Back stage_way
  stages-back = rows_back literal_way literals-back 44 comma_mark literal-commas

  pub stage-ands : Between stage_way 38 and_mark
  unfolding is_name is_small is_capital skip is_blank
  stage-ands = record { shut = λ s. (record { name = refl; bracket = λ e. omega arith; equality = λ e. omega arith }, λ e. omega arith); there = λ s. refl; past-it = λ s. refl }

  abbrev pub goal_way : Way Goal (List (List Said))
  goal_way = row_way stage_way 38 and_mark

  pub goals-back : Back goal_way
  goals-back = rows_back stage_way stages-back 38 and_mark stage-ands

  -- a goal, perhaps of no stage
  abbrev pub GoalOk : Goal → Type 0
  GoalOk g = Each (RowOk LiteralOk) g

  abbrev pub ShutGoal : List ℕ → Type 0
  ShutGoal s = goal_way.Shut s

  pub goal-read : (st : List Literal) (g : Goal) (rest : List ℕ) → GoalOk (st ∷ g) → ShutGoal rest → read_goal (goal_text r nm (st ∷ g) ++ rest) ≡ got (said_goal r nm (st ∷ g)) (skip rest)
  unfolding read_goal goal_text
  goal-read st g rest o h = goals-back.item (st ∷ g) rest o h

  pub goal-begins : (st : List Literal) (g : Goal) (rest : List ℕ) → GoalOk (st ∷ g) → skip (goal_text r nm (st ∷ g) ++ rest) ≡ goal_text r nm (st ∷ g) ++ rest
  unfolding goal_text
  goal-begins st g rest o = goals-back.begins (st ∷ g) rest o

  -- its first byte is a letter
  pub goal-first : (st : List Literal) (g : Goal) (rest : List ℕ) → GoalOk (st ∷ g) → 65 ≤ first (goal_text r nm (st ∷ g) ++ rest)
  unfolding goal_text row_text
  goal-first [] g rest o = absurd o.0
  goal-first (l ∷ ls) g rest o =
      let (x, t, p, e) = literal-front l o.0.0 in
      rw (e, append_assoc (x ++ t) _ _, append_assoc (x ++ t) _ rest, append_assoc x t _) (rw (first_of x _ p) (letter-high (first x) p.letter))
