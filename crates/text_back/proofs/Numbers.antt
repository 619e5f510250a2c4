-- What the text of a program says means that program.
use mathlib.Core.Path.{◌∙◌, ◌≡◌, ap, refl, sym}
use mathlib.Core.Logic.{◌⊎◌, inl, inr}
use mathlib.Core.Bool.{◌&&◌, Bool, cond, false, true}
use mathlib.Core.List.{[], ◌++◌, ◌∷◌, append_assoc, append-nil, List, map, map-append, map-map}
use Prim.Native.Nat.{◌%◌, ◌+◌, ◌<◌, ◌≤◌, suc, ℕ}
use lib.Dec.{eqb}
use lib.ListN.{get_or, length}
use borrow.Author.Tests.{eqb-false, eqb-true, le-leb}
use native.Mathlib.Omega.{arith}
use Rattle.std.proofs.lemmas.Bool.{and_parts}
use Rattle.parlog.specs.Orders.{Each}
use Rattle.parlog.specs.Program.{Clause, Goal, Literal, Program}
use Rattle.parlog.specs.declared.Term.{Term}
use Rattle.parlog.specs.declared.Term.TheVariants.{Const, Var}
use Rattle.text_back.proofs.Begin.{entry-lower, small-no-capital}
use Rattle.text_back.proofs.Firsts.{adds-appear, appear-below, firsts-length, look-first}
use Rattle.text_back.proofs.Items.{GoalOk, LiteralOk, TermOk}
use Rattle.text_back.proofs.Lines.{ClauseOk, LinesOk, ModeOk}
use Rattle.text_back.proofs.Rows.{RowOk}
use Rattle.text_back.proofs.Said.{said, said_by, said_clause, said_clauses, said_goal, said_modes, said_program}
use Rattle.text_back.specs.Back.{Appear, constants_in, Distinct, firsts, PrintsBack, terms_of, terms_of_clause, terms_of_goal, VariablesAppear, variables_in}
use Rattle.text_names.proofs.Looked.{same_self}
use Rattle.text_names.specs.Bytes.{first, is_capital}
use Rattle.text_names.specs.Entries.{entry_name, is_entry}
use Rattle.text_names.specs.Names.{adds, look, Name, same_name}
use Rattle.text_program.specs.Numbered.{clause_numbered, clauses_behind, clauses_numbered, clause_terms, constant_names, goal_numbered, goal_terms, is_upper, joined, literal_numbered, lowers, mark_by, Numbering, numbering_for, program_in, relation_names, said_terms, term_numbered, uppers, variable_names}
use Rattle.text_program.specs.Parsing.{all_of}
use Rattle.text_program.specs.Printing.{clause_named, goal_named, literal_named, next_mark, program_named, relations_named, term_named, term_text}
use Rattle.text_program.specs.Source.{ModeLine, Source}

-- ---- lists

pub each_left : {A : Type 0} (P : A → Type 0) (xs ys : List A) → Each P (xs ++ ys) → Each P xs
each_left P [] ys e = tt
each_left P (x ∷ xs) ys e = (e.0, each_left P xs ys e.1)

pub each_right : {A : Type 0} (P : A → Type 0) (xs ys : List A) → Each P (xs ++ ys) → Each P ys
each_right P [] ys e = e
each_right P (x ∷ xs) ys e = each_right P xs ys e.1

pub each-join : {A : Type 0} (P : A → Type 0) (xs ys : List A) → Each P xs → Each P ys → Each P (xs ++ ys)
each-join P [] ys e f = f
each-join P (x ∷ xs) ys e f = (e.0, each-join P xs ys e.1 f)

-- what holds of all that is joined holds of each part
pub each-parts : {A B : Type 0} (P : B → Type 0) (f : A → List B) (xs : List A) → Each P (joined f xs) → Each (λ x. Each P (f x)) xs
unfolding joined
each-parts P f [] e = tt
each-parts P f (x ∷ xs) e = (each_left P (f x) (joined f xs) e, each-parts P f xs (each_right P (f x) (joined f xs) e))

pub each-also : {A : Type 0} (P Q R : A → Type 0) → ((x : A) → P x → Q x → R x) → (xs : List A) → Each P xs → Each Q xs → Each R xs
each-also P Q R h [] p q = tt
each-also P Q R h (x ∷ xs) p q = (h x p.0 q.0, each-also P Q R h xs p.1 q.1)

pub map_same : {A : Type 0} (f : A → A) (xs : List A) → Each (λ x. f x ≡ x) xs → map f xs ≡ xs
map_same f [] e = refl
map_same f (x ∷ xs) e = rw (e.0, map_same f xs e.1)

pub map_back : {A B : Type 0} (g : B → A) (f : A → B) (xs : List A) → Each (λ x. g (f x) ≡ x) xs → map g (map f xs) ≡ xs
map_back g f xs e = map-map g f xs ∙ map_same (λ x. g (f x)) xs e

pub joined-map : {A B C D : Type 0} (P : A → Type 0) (f : B → List D) (g : A → B) (h : C → D) (k : A → List C) → ((x : A) → P x → f (g x) ≡ map h (k x)) → (xs : List A) → Each P xs → joined f (map g xs) ≡ map h (joined k xs)
unfolding joined
joined-map P f g h k e [] p = refl
joined-map P f g h k e (x ∷ xs) p = rw (e x p.0, joined-map P f g h k e xs p.1) (sym (map-append h (k x) (joined k xs)))

pub row-each : {A : Type 0} (P : A → Type 0) (xs : List A) → RowOk P xs → Each P xs
row-each P [] o = absurd o
row-each P (x ∷ xs) o = o

pub rows-each : {A : Type 0} (P : A → Type 0) (xss : List (List A)) → Each (RowOk P) xss → Each (Each P) xss
rows-each P [] o = tt
rows-each P (xs ∷ xss) o = (row-each P xs o.0, rows-each P xss o.1)

-- ---- what a load gives

pub record LiteralMade (r : ℕ) (l : Literal) : Type 0 where
  pub pair : l.rel ≡ 255 → length l.args ≡ 2
  pub known : (l.rel ≡ 255 → ⊥) → l.rel < r

abbrev pub GoalMade : ℕ → Goal → Type 0
GoalMade r g = Each (RowOk (LiteralMade r)) g

pub record ClauseMade (r : ℕ) (c : Clause) : Type 0 where
  pub known : c.rel < r
  pub vars : c.vars ≤ 16
  pub guard : GoalMade r c.guard
  pub body : GoalMade r c.body

-- mark 1 behind a clause of the same relation alone
abbrev pub MarkBehind : Clause → Clause → Type 0
MarkBehind b c = (c.mark ≡ 0) ⊎ ((c.mark ≡ 1) × (b.rel ≡ c.rel))

abbrev pub MarksBehind : Clause → List Clause → Type 0
MarksBehind b [] = Unit {0}
MarksBehind b (c ∷ cs) = MarkBehind b c × MarksBehind c cs

abbrev pub MarksMade : List Clause → Type 0
MarksMade [] = Unit {0}
MarksMade (c ∷ cs) = (c.mark ≡ 0) × MarksBehind c cs

pub record Made (pr : Program) : Type 0 where
  pub modes : Each (Each ModeOk) pr.relations
  pub clauses : Each (ClauseMade (length pr.relations)) pr.clauses
  pub marks : MarksMade pr.clauses
  pub vars : pr.goal_vars ≤ 16
  pub goal : GoalMade (length pr.relations) pr.goal

-- ---- with names, it can be written

pub each_of : {A : Type 0} (f : A → Bool) (P : A → Type 0) → ((x : A) → f x ≡ true → P x) → (xs : List A) → all_of f xs ≡ true → Each P xs
unfolding all_of
each_of f P h [] e = tt
each_of f P h (x ∷ xs) e = let w = and_parts (f x) (all_of f xs) e in (h x w.0, each_of f P h xs w.1)

module _ (r : ℕ) (nm : List ℕ) where
  terms-ok : (ts : List Term) → all_of (term_named r nm) ts ≡ true → Each (TermOk r nm) ts
  terms-ok ts e = each_of (term_named r nm) (TermOk r nm) (λ t f. f) ts e

  literal-ok : (l : Literal) → LiteralMade r l → literal_named r nm l ≡ true → LiteralOk r nm l
  unfolding literal_named
  literal-ok l m e = go (eqb l.rel 255) refl e
    where
      go : (b : Bool) → eqb l.rel 255 ≡ b → cond b (all_of (term_named r nm) l.args) (is_entry nm l.rel && all_of (term_named r nm) l.args) ≡ true → LiteralOk r nm l
      go true f e = record { terms = terms-ok l.args e; pair = m.pair; named = λ h. absurd (h (eqb-true l.rel 255 f)) }
      go false f e = let w = and_parts (is_entry nm l.rel) (all_of (term_named r nm) l.args) e in record { terms = terms-ok l.args w.1; pair = m.pair; named = λ h. w.0 }

  stage-ok : (st : List Literal) → RowOk (LiteralMade r) st → all_of (literal_named r nm) st ≡ true → RowOk (LiteralOk r nm) st
  stage-ok [] m e = absurd m
  stage-ok (l ∷ ls) m e = each-also (LiteralMade r) (λ l. literal_named r nm l ≡ true) (LiteralOk r nm) literal-ok (l ∷ ls) m (each_of (literal_named r nm) (λ l. literal_named r nm l ≡ true) (λ l f. f) (l ∷ ls) e)

  pub goal-ok : (g : Goal) → GoalMade r g → goal_named r nm g ≡ true → GoalOk r nm g
  goal-ok g m e =
      each-also (RowOk (LiteralMade r)) (λ st. all_of (literal_named r nm) st ≡ true) (RowOk (LiteralOk r nm)) stage-ok g m
      (each_of (all_of (literal_named r nm)) (λ st. all_of (literal_named r nm) st ≡ true) (λ st f. f) g e)

  clause-ok : (c : Clause) → ClauseMade r c → clause_named r nm c ≡ true → ClauseOk r nm c
  clause-ok c m e =
      let a = and_parts (is_entry nm c.rel) (all_of (term_named r nm) c.head && (goal_named r nm c.guard && goal_named r nm c.body)) e in
      let b = and_parts (all_of (term_named r nm) c.head) (goal_named r nm c.guard && goal_named r nm c.body) a.1 in
      let d = and_parts (goal_named r nm c.guard) (goal_named r nm c.body) b.1 in
      record { named = a.0; head = terms-ok c.head b.0; guard = goal-ok c.guard m.guard d.0; body = goal-ok c.body m.body d.1 }

  clauses-ok : (cs : List Clause) → Each (ClauseMade r) cs → all_of (clause_named r nm) cs ≡ true → Each (ClauseOk r nm) cs
  clauses-ok cs m e = each-also (ClauseMade r) (λ c. clause_named r nm c ≡ true) (ClauseOk r nm) clause-ok cs m (each_of (clause_named r nm) (λ c. clause_named r nm c ≡ true) (λ c f. f) cs e)

pub lines_ok : (nm : List ℕ) (pr : Program) → Made pr → program_named nm pr ≡ true → LinesOk (length pr.relations) nm pr.relations pr.clauses pr.goal
unfolding program_named
lines_ok nm pr m e =
    let r = length pr.relations in
    let a = and_parts (relations_named r nm 0 pr.relations) (all_of (clause_named r nm) pr.clauses && goal_named r nm pr.goal) e in
    let b = and_parts (all_of (clause_named r nm) pr.clauses) (goal_named r nm pr.goal) a.1 in
    record { modes = m.modes; relations = a.0; clauses = clauses-ok r nm pr.clauses m.clauses b.0; goal = goal-ok r nm pr.goal m.goal b.1 }

-- ---- the terms that are said

module _ (r : ℕ) (nm : List ℕ) where
  abbrev pub letter : ℕ → Name
  letter v = (65 + v % 16) ∷ []

  abbrev pub constant_name : ℕ → Name
  constant_name c = entry_name nm (r + c)

  literal-terms : (l : Literal) → LiteralOk r nm l → said_terms (said r nm l) ≡ map (term_text r nm) l.args
  unfolding said
  literal-terms l o = go (eqb l.rel 255) refl
    where
      pair : (ts : List Term) → length ts ≡ 2 → term_text r nm (get_or ts 0 (Const 0)) ∷ term_text r nm (get_or ts 1 (Const 0)) ∷ [] ≡ map (term_text r nm) ts
      pair [] e = absurd (omega arith)
      pair (a ∷ []) e = absurd (omega arith)
      pair (a ∷ b ∷ []) e = refl
      pair (a ∷ b ∷ d ∷ ts) e = absurd (omega arith)

      go : (b : Bool) → eqb l.rel 255 ≡ b → said_terms (said_by r nm b l) ≡ map (term_text r nm) l.args
      go true e = pair l.args (o.pair (eqb-true l.rel 255 e))
      go false e = refl

  goal-terms : (g : Goal) → GoalOk r nm g → goal_terms (said_goal r nm g) ≡ map (term_text r nm) (terms_of_goal g)
  goal-terms g o =
      joined-map (Each (LiteralOk r nm)) (joined said_terms) (map (said r nm)) (term_text r nm) (joined (λ (l : Literal). l.args))
      (λ st p. joined-map (LiteralOk r nm) said_terms (said r nm) (term_text r nm) (λ (l : Literal). l.args) literal-terms st p) g (rows-each (LiteralOk r nm) g o)

  clause-terms : (c : Clause) (m : ℕ) → ClauseOk r nm c → clause_terms (said_clause r nm c m) ≡ map (term_text r nm) (terms_of_clause c)
  clause-terms c m o =
      rw (goal-terms c.guard o.guard, goal-terms c.body o.body)
      (sym (map-append (term_text r nm) c.head (terms_of_goal c.guard ++ terms_of_goal c.body) ∙ ap (λ (zs : List Name). map (term_text r nm) c.head ++ zs) (map-append (term_text r nm) (terms_of_goal c.guard) (terms_of_goal c.body))))

  clauses-terms : (cs : List Clause) → Each (ClauseOk r nm) cs → joined clause_terms (said_clauses r nm cs) ≡ map (term_text r nm) (joined terms_of_clause cs)
  unfolding joined said_clauses
  clauses-terms [] o = refl
  clauses-terms (c ∷ cs) o = rw (clause-terms c (next_mark cs) o.0, clauses-terms cs o.1) (sym (map-append (term_text r nm) (terms_of_clause c) (joined terms_of_clause cs)))

  -- ---- their sorts

  pub letter-upper : (v : ℕ) → is_upper (letter v) ≡ true
  unfolding is_capital
  letter-upper v = let h : v % 16 < 16 = omega arith in rw (le-leb 65 (65 + v % 16) (omega arith), le-leb (65 + v % 16) (65 + 25) (omega arith))

  constant-lower : (c : ℕ) → is_entry nm (r + c) ≡ true → is_upper (constant_name c) ≡ false
  constant-lower c e = small-no-capital (first (constant_name c)) (entry-lower nm (r + c) e).small

  said-uppers : (ts : List Term) → Each (TermOk r nm) ts → uppers (map (term_text r nm) ts) ≡ map letter (variables_in ts)
  unfolding uppers term_text variables_in term_named
  said-uppers [] o = refl
  said-uppers (Const c ∷ ts) o = rw (constant-lower c o.0) (said-uppers ts o.1)
  said-uppers (Var v ∷ ts) o = rw (letter-upper v) (ap (λ (zs : List Name). letter v ∷ zs) (said-uppers ts o.1))

  said-lowers : (ts : List Term) → Each (TermOk r nm) ts → lowers (map (term_text r nm) ts) ≡ map constant_name (constants_in ts)
  unfolding lowers term_text constants_in term_named
  said-lowers [] o = refl
  said-lowers (Const c ∷ ts) o = rw (constant-lower c o.0) (ap (λ (zs : List Name). constant_name c ∷ zs) (said-lowers ts o.1))
  said-lowers (Var v ∷ ts) o = rw (letter-upper v) (said-lowers ts o.1)

  letters-distinct : (n : ℕ) → n ≤ 16 → Distinct letter n
  letters-distinct n h i j l k e =
      let a : i % 16 ≡ i = omega arith in
      let b : j % 16 ≡ j = omega arith in
      let d : 65 + i % 16 ≡ 65 + j % 16 = ap (λ (x : Name). first x) e in
      omega arith

  pub variables-back : (ts : List Term) (n : ℕ) → n ≤ 16 → Each (TermOk r nm) ts → Appear 0 n (variables_in ts) → variable_names (map (term_text r nm) ts) ≡ firsts letter n
  variables-back ts n h o a = unfold firsts in rw (said-uppers ts o) (adds-appear letter (letters-distinct n h) a)

-- the terms of a goal that can be written can be
pub goal-terms-ok : (r : ℕ) (nm : List ℕ) (g : Goal) → GoalOk r nm g → Each (TermOk r nm) (terms_of_goal g)
unfolding joined
goal-terms-ok r nm [] o = tt
goal-terms-ok r nm (st ∷ g) o = each-join (TermOk r nm) (joined (λ (l : Literal). l.args) st) (terms_of_goal g) (go st (row-each (LiteralOk r nm) st o.0)) (goal-terms-ok r nm g o.1)
  where
    go : (st : List Literal) → Each (LiteralOk r nm) st → Each (TermOk r nm) (joined (λ (l : Literal). l.args) st)
    go [] p = unfold joined in tt
    go (l ∷ ls) p = unfold joined in each-join (TermOk r nm) l.args (joined (λ (l : Literal). l.args) ls) p.0.terms (go ls p.1)

clause-terms-ok : (r : ℕ) (nm : List ℕ) (c : Clause) → ClauseOk r nm c → Each (TermOk r nm) (terms_of_clause c)
clause-terms-ok r nm c o = each-join (TermOk r nm) c.head (terms_of_goal c.guard ++ terms_of_goal c.body) o.head (each-join (TermOk r nm) (terms_of_goal c.guard) (terms_of_goal c.body) (goal-terms-ok r nm c.guard o.guard) (goal-terms-ok r nm c.body o.body))

pub clauses-terms-ok : (r : ℕ) (nm : List ℕ) (cs : List Clause) → Each (ClauseOk r nm) cs → Each (TermOk r nm) (joined terms_of_clause cs)
unfolding joined
clauses-terms-ok r nm [] o = tt
clauses-terms-ok r nm (c ∷ cs) o = each-join (TermOk r nm) (terms_of_clause c) (joined terms_of_clause cs) (clause-terms-ok r nm c o.0) (clauses-terms-ok r nm cs o.1)

-- ---- numbers below the counts

abbrev TermBelow : ℕ → ℕ → Term → Type 0
TermBelow n v (Const c) = c < n
TermBelow n v (Var w) = w < v

abbrev Smaller : ℕ → ℕ → Type 0
Smaller n k = k < n

terms-below : (n v : ℕ) (ts : List Term) → Each (Smaller n) (constants_in ts) → Each (Smaller v) (variables_in ts) → Each (TermBelow n v) ts
unfolding constants_in variables_in
terms-below n v [] a b = tt
terms-below n v (Const c ∷ ts) a b = (a.0, terms-below n v ts a.1 b)
terms-below n v (Var w ∷ ts) a b = (b.0, terms-below n v ts a b.1)

pub constants-append : (ts us : List Term) → constants_in (ts ++ us) ≡ constants_in ts ++ constants_in us
unfolding constants_in
constants-append [] us = refl
constants-append (Const c ∷ ts) us = ap (λ (zs : List ℕ). c ∷ zs) (constants-append ts us)
constants-append (Var v ∷ ts) us = constants-append ts us

-- ---- terms, literals, goals by their numbers

module _ (nm : List ℕ) (r n : ℕ) (relations-apart : Distinct (entry_name nm) r) (constants-apart : Distinct (constant_name r nm) n) (v : ℕ) (small : v ≤ 16) where
  abbrev numbering : Numbering
  numbering = record { relations = firsts (entry_name nm) r; constants = firsts (constant_name r nm) n; variables = firsts (letter r nm) v }

  term-again : (t : Term) → TermOk r nm t → TermBelow n v t → term_numbered numbering (term_text r nm t) ≡ t
  unfolding term_numbered term_text term_named
  term-again (Const c) o h = rw (constant-lower r nm c o, look-first (constant_name r nm) n c constants-apart h)
  term-again (Var w) o h = rw (letter-upper r nm w, look-first (letter r nm) v w (letters-distinct r nm v small) h)

  terms-again : (ts : List Term) → Each (TermOk r nm) ts → Each (TermBelow n v) ts → map (term_numbered numbering) (map (term_text r nm) ts) ≡ ts
  terms-again ts o h = map_back (term_numbered numbering) (term_text r nm) ts (each-also (TermOk r nm) (TermBelow n v) (λ t. term_numbered numbering (term_text r nm t) ≡ t) term-again ts o h)

  literal-again : (l : Literal) → LiteralOk r nm l → LiteralMade r l → Each (TermBelow n v) l.args → literal_numbered numbering (said r nm l) ≡ l
  unfolding said
  literal-again l o m h = go (eqb l.rel 255) refl
    where
      pair : (ts : List Term) → length ts ≡ 2 → Each (TermOk r nm) ts → Each (TermBelow n v) ts →
          term_numbered numbering (term_text r nm (get_or ts 0 (Const 0))) ∷ term_numbered numbering (term_text r nm (get_or ts 1 (Const 0))) ∷ [] ≡ ts
      pair [] e p q = absurd (omega arith)
      pair (a ∷ []) e p q = absurd (omega arith)
      pair (a ∷ b ∷ []) e p q = rw (term-again a p.0 q.0, term-again b p.1.0 q.1.0)
      pair (a ∷ b ∷ d ∷ ts) e p q = absurd (omega arith)

      go : (b : Bool) → eqb l.rel 255 ≡ b → literal_numbered numbering (said_by r nm b l) ≡ l
      go true e = let z = eqb-true l.rel 255 e in rw (pair l.args (o.pair z) o.terms h, ← z)
      go false e = rw (look-first (entry_name nm) r l.rel relations-apart (m.known (eqb-false l.rel 255 e)), terms-again l.args o.terms h)

  record LiteralAll (l : Literal) : Type 0 where
    pub ok : LiteralOk r nm l
    pub made : LiteralMade r l
    pub below : Each (TermBelow n v) l.args

  abbrev StageAll : List Literal → Type 0
  StageAll st = Each LiteralAll st

  goal-all : (g : Goal) → GoalOk r nm g → GoalMade r g → Each (TermBelow n v) (terms_of_goal g) → Each StageAll g
  goal-all g o m h =
      each-also (Each (LiteralOk r nm)) (λ st. Each (LiteralMade r) st × Each (λ (l : Literal). Each (TermBelow n v) l.args) st) StageAll
      (λ st a b. each-also (LiteralOk r nm) (λ l. LiteralMade r l × Each (TermBelow n v) l.args) LiteralAll (λ l x y. record { ok = x; made = y.0; below = y.1 }) st a (each-also (LiteralMade r) (λ l. Each (TermBelow n v) l.args) (λ l. LiteralMade r l × Each (TermBelow n v) l.args) (λ l x y. (x, y)) st b.0 b.1))
      g (rows-each (LiteralOk r nm) g o)
      (each-also (Each (LiteralMade r)) (λ st. Each (λ (l : Literal). Each (TermBelow n v) l.args) st) (λ st. Each (LiteralMade r) st × Each (λ (l : Literal). Each (TermBelow n v) l.args) st) (λ st x y. (x, y)) g (rows-each (LiteralMade r) g m)
      (goal-parts g h))
    where
      goal-parts : (g : Goal) → Each (TermBelow n v) (terms_of_goal g) → Each (λ st. Each (λ (l : Literal). Each (TermBelow n v) l.args) st) g
      goal-parts [] h = tt
      goal-parts (st ∷ g) h =
          let w = each-parts (TermBelow n v) (joined (λ (l : Literal). l.args)) (st ∷ g) h in
          (each-parts (TermBelow n v) (λ (l : Literal). l.args) st w.0, goal-parts g (each_right (TermBelow n v) (joined (λ (l : Literal). l.args) st) (terms_of_goal g) (unfold joined in h)))

  stage-again : (st : List Literal) → StageAll st → map (literal_numbered numbering) (map (said r nm) st) ≡ st
  stage-again st a = map_back (literal_numbered numbering) (said r nm) st (each-also LiteralAll LiteralAll (λ l. literal_numbered numbering (said r nm l) ≡ l) (λ l x y. literal-again l x.ok x.made x.below) st a a)

  pub goal-again : (g : Goal) → GoalOk r nm g → GoalMade r g → Each (TermBelow n v) (terms_of_goal g) → goal_numbered numbering (said_goal r nm g) ≡ g
  goal-again g o m h =
      let a = goal-all g o m h in
      map_back (map (literal_numbered numbering)) (map (said r nm)) g (each-also StageAll StageAll (λ st. map (literal_numbered numbering) (map (said r nm) st) ≡ st) (λ st x y. stage-again st x) g a a)

-- ---- relations

modes-again : (r : ℕ) (nm : List ℕ) (k : ℕ) (mss : List (List ℕ)) → map (λ (m : ModeLine). m.modes) (said_modes r nm k mss) ≡ mss
unfolding said_modes
modes-again r nm k [] = refl
modes-again r nm k (ms ∷ mss) = ap (λ (zs : List (List ℕ)). ms ∷ zs) (modes-again r nm (suc k) mss)

names-again : (r : ℕ) (nm : List ℕ) (k : ℕ) (mss : List (List ℕ)) → firsts (entry_name nm) k ++ map (λ (m : ModeLine). m.name) (said_modes r nm k mss) ≡ firsts (entry_name nm) (k + length mss)
unfolding said_modes firsts
names-again r nm k [] = let z : k + 0 ≡ k = omega arith in rw z (append-nil (firsts (entry_name nm) k))
names-again r nm k (ms ∷ mss) =
    let z : suc k + length mss ≡ k + suc (length mss) = omega arith in
    sym (append_assoc (firsts (entry_name nm) k) (entry_name nm k ∷ []) (map (λ (m : ModeLine). m.name) (said_modes r nm (suc k) mss)))
    ∙ (rw z at (names-again r nm (suc k) mss))

-- ---- all of it

module _ (nm : List ℕ) (pr : Program) (n : ℕ) (made : Made pr) (fit : PrintsBack nm pr n) where
  abbrev r : ℕ
  r = length pr.relations

  abbrev p : Source
  p = said_program nm pr

  ok : LinesOk r nm pr.relations pr.clauses pr.goal
  ok = lines_ok nm pr made fit.named

  pub relations-are : relation_names p ≡ firsts (entry_name nm) r
  unfolding said_program firsts
  relations-are = let z : 0 + r ≡ r = omega arith in (rw z at (names-again r nm 0 pr.relations))

  terms-said : joined clause_terms (said_clauses r nm pr.clauses) ++ goal_terms (said_goal r nm pr.goal) ≡ map (term_text r nm) (terms_of pr)
  terms-said =
      rw (clauses-terms r nm pr.clauses ok.clauses, goal-terms r nm pr.goal ok.goal)
      (sym (map-append (term_text r nm) (joined terms_of_clause pr.clauses) (terms_of_goal pr.goal)))

  terms-all-ok : Each (TermOk r nm) (terms_of pr)
  terms-all-ok = each-join (TermOk r nm) (joined terms_of_clause pr.clauses) (terms_of_goal pr.goal) (clauses-terms-ok r nm pr.clauses ok.clauses) (goal-terms-ok r nm pr.goal ok.goal)

  pub constants-are : constant_names p ≡ firsts (constant_name r nm) n
  unfolding constant_names said_program firsts
  constants-are = ap (λ (ts : List Name). adds [] (lowers ts)) terms-said ∙ ap (adds []) (said-lowers r nm (terms_of pr) terms-all-ok) ∙ adds-appear (constant_name r nm) fit.constants fit.constants_appear

  -- the constants of each part are below n
  all-constants : Each (Smaller n) (constants_in (joined terms_of_clause pr.clauses) ++ constants_in (terms_of_goal pr.goal))
  all-constants = rw (constants-append (joined terms_of_clause pr.clauses) (terms_of_goal pr.goal)) at (appear-below fit.constants_appear)

  goal-below : Each (TermBelow n pr.goal_vars) (terms_of_goal pr.goal)
  goal-below = terms-below n pr.goal_vars (terms_of_goal pr.goal) (each_right (Smaller n) (constants_in (joined terms_of_clause pr.clauses)) (constants_in (terms_of_goal pr.goal)) all-constants) (appear-below fit.goal_appears)

  abbrev by : ℕ → Numbering
  by v = record { relations = firsts (entry_name nm) r; constants = firsts (constant_name r nm) n; variables = firsts (letter r nm) v }

  numbering-is : (ts : List Name) (us : List Term) (v : ℕ) → v ≤ 16 → ts ≡ map (term_text r nm) us → Each (TermOk r nm) us → Appear 0 v (variables_in us) → numbering_for p ts ≡ by v
  numbering-is ts us v h e o a = rw (relations-are, constants-are, e, variables-back r nm us v h o a)

  goal-number : numbering_for p (goal_terms (said_goal r nm pr.goal)) ≡ by pr.goal_vars
  goal-number = numbering-is (goal_terms (said_goal r nm pr.goal)) (terms_of_goal pr.goal) pr.goal_vars made.vars (goal-terms r nm pr.goal ok.goal) (goal-terms-ok r nm pr.goal ok.goal) fit.goal_appears

  -- what is needed of each clause
  record ClauseAll (c : Clause) : Type 0 where
    pub is_ok : ClauseOk r nm c
    pub is_made : ClauseMade r c
    pub appears : VariablesAppear c
    pub constants : Each (Smaller n) (constants_in (terms_of_clause c))

  module _ (c : Clause) (a : ClauseAll c) (m : ℕ) where
    clause-number : numbering_for p (clause_terms (said_clause r nm c m)) ≡ by c.vars
    clause-number = numbering-is (clause_terms (said_clause r nm c m)) (terms_of_clause c) c.vars a.is_made.vars (clause-terms r nm c m a.is_ok) (clause-terms-ok r nm c a.is_ok) a.appears

    clause-below : Each (TermBelow n c.vars) (terms_of_clause c)
    clause-below = terms-below n c.vars (terms_of_clause c) a.constants (appear-below a.appears)

    goals-below : Each (TermBelow n c.vars) (terms_of_goal c.guard ++ terms_of_goal c.body)
    goals-below = each_right (TermBelow n c.vars) c.head (terms_of_goal c.guard ++ terms_of_goal c.body) clause-below

    clause-by : (k : Numbering) → k ≡ by c.vars → (b : Bool) → mark_by b ≡ c.mark →
        ◌≡◌ {A = Clause} (record {
          rel = look k.relations (entry_name nm c.rel);
          mark = mark_by b;
          vars = length k.variables;
          head = map (term_numbered k) (map (term_text r nm) c.head);
          guard = goal_numbered k (said_goal r nm c.guard);
          body = goal_numbered k (said_goal r nm c.body);
        }) c
    clause-by k e b f =
        rw (
          e,
          f,
          look-first (entry_name nm) r c.rel fit.relations a.is_made.known,
          firsts-length (letter r nm) c.vars,
          terms-again nm r n fit.relations fit.constants c.vars a.is_made.vars c.head a.is_ok.head (each_left (TermBelow n c.vars) c.head (terms_of_goal c.guard ++ terms_of_goal c.body) clause-below),
          goal-again nm r n fit.relations fit.constants c.vars a.is_made.vars c.guard a.is_ok.guard a.is_made.guard (each_left (TermBelow n c.vars) (terms_of_goal c.guard) (terms_of_goal c.body) goals-below),
          goal-again nm r n fit.relations fit.constants c.vars a.is_made.vars c.body a.is_ok.body a.is_made.body (each_right (TermBelow n c.vars) (terms_of_goal c.guard) (terms_of_goal c.body) goals-below),
        )

    clause-again : (b : Bool) → mark_by b ≡ c.mark → clause_numbered p b (said_clause r nm c m) ≡ c
    clause-again b f = clause-by (numbering_for p (clause_terms (said_clause r nm c m))) clause-number b f

  mark-again : (b c : Clause) → MarkBehind b c → mark_by (eqb c.mark 1 && same_name (entry_name nm b.rel) (entry_name nm c.rel)) ≡ c.mark
  mark-again b c (inl e) = rw e
  mark-again b c (inr (e, f)) = rw (e, f, same_self (entry_name nm c.rel))

  behind-again : (b : Clause) (cs : List Clause) → Each ClauseAll cs → MarksBehind b cs → clauses_behind p (said_clause r nm b (next_mark cs)) (said_clauses r nm cs) ≡ cs
  unfolding clauses_behind said_clauses
  behind-again b [] a m = refl
  behind-again b (c ∷ cs) a m =
      rw (clause-again c a.0 (next_mark cs) (eqb c.mark 1 && same_name (entry_name nm b.rel) (entry_name nm c.rel)) (mark-again b c m.0))
      (ap (λ (zs : List Clause). c ∷ zs) (behind-again c cs a.1 m.1))

  clauses-again : (cs : List Clause) → Each ClauseAll cs → MarksMade cs → clauses_numbered p (said_clauses r nm cs) ≡ cs
  unfolding clauses_numbered said_clauses
  clauses-again [] a m = refl
  clauses-again (c ∷ cs) a m = rw (clause-again c a.0 (next_mark cs) false (sym m.0)) (ap (λ (zs : List Clause). c ∷ zs) (behind-again c cs a.1 m.1))

  constants-parts : (cs : List Clause) → Each (Smaller n) (constants_in (joined terms_of_clause cs)) → Each (λ c. Each (Smaller n) (constants_in (terms_of_clause c))) cs
  unfolding joined
  constants-parts [] e = tt
  constants-parts (c ∷ cs) e =
      let f = rw (constants-append (terms_of_clause c) (joined terms_of_clause cs)) at e in
      (each_left (Smaller n) (constants_in (terms_of_clause c)) (constants_in (joined terms_of_clause cs)) f, constants-parts cs (each_right (Smaller n) (constants_in (terms_of_clause c)) (constants_in (joined terms_of_clause cs)) f))

  all-clauses : Each ClauseAll pr.clauses
  all-clauses =
      let cs = pr.clauses in
      let parts = constants-parts cs (each_left (Smaller n) (constants_in (joined terms_of_clause cs)) (constants_in (terms_of_goal pr.goal)) all-constants) in
      each-also (λ c. ClauseOk r nm c × ClauseMade r c) (λ c. VariablesAppear c × Each (Smaller n) (constants_in (terms_of_clause c))) ClauseAll
      (λ c x y. record { is_ok = x.0; is_made = x.1; appears = y.0; constants = y.1 }) cs
      (each-also (ClauseOk r nm) (ClauseMade r) (λ c. ClauseOk r nm c × ClauseMade r c) (λ c x y. (x, y)) cs ok.clauses made.clauses)
      (each-also VariablesAppear (λ c. Each (Smaller n) (constants_in (terms_of_clause c))) (λ c. VariablesAppear c × Each (Smaller n) (constants_in (terms_of_clause c))) (λ c x y. (x, y)) cs fit.variables_appear parts)

  ask-by : (k : Numbering) → k ≡ by pr.goal_vars → ◌≡◌ {A = Program} (record { relations = pr.relations; clauses = pr.clauses; goal_vars = length k.variables; goal = goal_numbered k (said_goal r nm pr.goal) }) pr
  ask-by k e = rw (e, firsts-length (letter r nm) pr.goal_vars, goal-again nm r n fit.relations fit.constants pr.goal_vars made.vars pr.goal ok.goal made.goal goal-below)

  -- THE LAW: it means the program
  pub program-again : program_in p ≡ pr
  unfolding program_in
  program-again = parts (modes-again r nm 0 pr.relations) (clauses-again pr.clauses all-clauses made.marks) (ask-by (numbering_for p (goal_terms (said_goal r nm pr.goal))) goal-number)
    where
      parts : map (λ (m : ModeLine). m.modes) (said_modes r nm 0 pr.relations) ≡ pr.relations → clauses_numbered p (said_clauses r nm pr.clauses) ≡ pr.clauses →
          ◌≡◌ {A = Program} (record { relations = pr.relations; clauses = pr.clauses; goal_vars = length (numbering_for p (goal_terms (said_goal r nm pr.goal))).variables; goal = goal_numbered (numbering_for p (goal_terms (said_goal r nm pr.goal))) (said_goal r nm pr.goal) }) pr →
          program_in p ≡ pr
      parts a b d = unfold program_in in unfold said_program in rw (a, b) d
