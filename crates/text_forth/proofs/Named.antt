-- The program of a parsed text: its terms by their numbers, and its names.
use mathlib.Core.Path.{◌∙◌, ◌≡◌, ap, refl, sym}
use mathlib.Core.Bool.{◌&&◌, Bool, cond, false, true}
use mathlib.Core.List.{[], ◌++◌, ◌∷◌, List, map, map-append}
use Prim.Native.Nat.{ℕ}
use lib.ListN.{length}
use Rattle.parlog.specs.Orders.{Each}
use Rattle.parlog.specs.Program.{Clause, Literal}
use Rattle.parlog.specs.declared.Term.{Term}
use Rattle.parlog.specs.declared.Term.TheVariants.{Const, Var}
use Rattle.text_back.proofs.Numbers.{constants-append, joined-map}
use Rattle.text_back.specs.Back.{Appear, constants_in, terms_of, terms_of_clause, terms_of_goal, VariablesAppear, variables_in}
use Rattle.text_forth.proofs.Ordered.{appear-adds}
use Rattle.text_loads.proofs.Decoded.{anything}
use Rattle.text_names.specs.Names.{look, Name, same_name}
use Rattle.text_program.proofs.Joined.{lowers-append}
use Rattle.text_program.specs.Numbered.{clause_numbered, clauses_behind, clauses_numbered, clause_terms, constant_names, goal_numbered, goal_terms, is_upper, joined, literal_numbered, lowers, Numbering, numbering_for, program_in, said_terms, term_numbered, uppers, variable_names}
use Rattle.text_program.specs.Source.{calls, equals, Said, SaidClause, Source}

-- ---- the terms of what was numbered

literal-terms : (n : Numbering) (l : Said) → (literal_numbered n l).args ≡ map (term_numbered n) (said_terms l)
literal-terms n (calls p ts) = refl
literal-terms n (equals a b) = refl

goal-terms : (n : Numbering) (g : List (List Said)) → terms_of_goal (goal_numbered n g) ≡ map (term_numbered n) (goal_terms g)
goal-terms n g =
    joined-map (λ x. Unit) (joined (λ (l : Literal). l.args)) (map (literal_numbered n)) (term_numbered n) (joined said_terms)
    (λ st u. joined-map (λ x. Unit) (λ (l : Literal). l.args) (literal_numbered n) (term_numbered n) said_terms (λ l v. literal-terms n l) st (anything st)) g (anything g)

clause-terms : (p : Source) (b : Bool) (c : SaidClause) → terms_of_clause (clause_numbered p b c) ≡ map (term_numbered (numbering_for p (clause_terms c))) (clause_terms c)
clause-terms p b c =
    let n = numbering_for p (clause_terms c) in
    let f = term_numbered n in
    rw (goal-terms n c.guard, goal-terms n c.body)
    (sym (map-append f c.terms (goal_terms c.guard ++ goal_terms c.body) ∙ ap (λ (zs : List Term). map f c.terms ++ zs) (map-append f (goal_terms c.guard) (goal_terms c.body))))

constants-of : (n : Numbering) (ts : List Name) → constants_in (map (term_numbered n) ts) ≡ map (look n.constants) (lowers ts)
unfolding constants_in lowers term_numbered
constants-of n [] = refl
constants-of n (x ∷ ts) = go (is_upper x) (constants-of n ts)
  where
    go : (b : Bool) → constants_in (map (term_numbered n) ts) ≡ map (look n.constants) (lowers ts) →
        constants_in (cond b (Var (look n.variables x)) (Const (look n.constants x)) ∷ map (term_numbered n) ts) ≡ map (look n.constants) (cond b (lowers ts) (x ∷ lowers ts))
    go true i = unfold constants_in in i
    go false i = unfold constants_in in ap (λ (zs : List ℕ). look n.constants x ∷ zs) i

variables-of : (n : Numbering) (ts : List Name) → variables_in (map (term_numbered n) ts) ≡ map (look n.variables) (uppers ts)
unfolding variables_in uppers term_numbered
variables-of n [] = refl
variables-of n (x ∷ ts) = go (is_upper x) (variables-of n ts)
  where
    go : (b : Bool) → variables_in (map (term_numbered n) ts) ≡ map (look n.variables) (uppers ts) →
        variables_in (cond b (Var (look n.variables x)) (Const (look n.constants x)) ∷ map (term_numbered n) ts) ≡ map (look n.variables) (cond b (x ∷ uppers ts) (uppers ts))
    go true i = unfold variables_in in ap (λ (zs : List ℕ). look n.variables x ∷ zs) i
    go false i = unfold variables_in in i

-- ---- variables appear in order

variables_appear : (p : Source) (ts : List Name) → Appear 0 (length (variable_names ts)) (variables_in (map (term_numbered (numbering_for p ts)) ts))
variables_appear p ts = rw (variables-of (numbering_for p ts) ts) (appear-adds (uppers ts) [])

clause-appears : (p : Source) (b : Bool) (c : SaidClause) → VariablesAppear (clause_numbered p b c)
clause-appears p b c = rw (clause-terms p b c) (variables_appear p (clause_terms c))

behind-appear : (p : Source) (b : SaidClause) (cs : List SaidClause) → Each VariablesAppear (clauses_behind p b cs)
unfolding clauses_behind
behind-appear p b [] = tt
behind-appear p b (c ∷ cs) = (clause-appears p (b.semicolon && same_name b.name c.name) c, behind-appear p c cs)

pub clauses-appear : (p : Source) (cs : List SaidClause) → Each VariablesAppear (clauses_numbered p cs)
unfolding clauses_numbered
clauses-appear p [] = tt
clauses-appear p (c ∷ cs) = (clause-appears p false c, behind-appear p c cs)

pub goal_appears : (p : Source) → Appear 0 (program_in p).goal_vars (variables_in (terms_of_goal (program_in p).goal))
unfolding program_in
goal_appears p = rw (goal-terms (numbering_for p (goal_terms p.goal)) p.goal) (variables_appear p (goal_terms p.goal))

-- ---- constants appear in order

module _ (p : Source) where
  abbrev by : List Name → List ℕ
  by ts = map (look (constant_names p)) (lowers ts)

  by_append : (xs ys : List Name) → by (xs ++ ys) ≡ by xs ++ by ys
  by_append xs ys = rw (lowers-append xs ys) (map-append (look (constant_names p)) (lowers xs) (lowers ys))

  clause-constants : (b : Bool) (c : SaidClause) → constants_in (terms_of_clause (clause_numbered p b c)) ≡ by (clause_terms c)
  clause-constants b c = ap constants_in (clause-terms p b c) ∙ constants-of (numbering_for p (clause_terms c)) (clause_terms c)

  step-constants : (b : Bool) (c : SaidClause) (cs : List SaidClause) (ds : List Clause) → constants_in (joined terms_of_clause ds) ≡ by (joined clause_terms cs) → constants_in (joined terms_of_clause (clause_numbered p b c ∷ ds)) ≡ by (joined clause_terms (c ∷ cs))
  unfolding joined
  step-constants b c cs ds e =
      constants-append (terms_of_clause (clause_numbered p b c)) (joined terms_of_clause ds) ∙ rw (clause-constants b c, e) (sym (by_append (clause_terms c) (joined clause_terms cs)))

  none-constants : constants_in (joined terms_of_clause []) ≡ by (joined clause_terms [])
  unfolding joined constants_in lowers
  none-constants = refl

  behind-constants : (b : SaidClause) (cs : List SaidClause) → constants_in (joined terms_of_clause (clauses_behind p b cs)) ≡ by (joined clause_terms cs)
  unfolding clauses_behind
  behind-constants b [] = none-constants
  behind-constants b (c ∷ cs) = step-constants (b.semicolon && same_name b.name c.name) c cs (clauses_behind p c cs) (behind-constants c cs)

  clauses-constants : (cs : List SaidClause) → constants_in (joined terms_of_clause (clauses_numbered p cs)) ≡ by (joined clause_terms cs)
  unfolding clauses_numbered
  clauses-constants [] = none-constants
  clauses-constants (c ∷ cs) = step-constants false c cs (clauses_behind p c cs) (behind-constants c cs)

  abbrev all_terms : List Name
  all_terms = joined clause_terms p.clauses ++ goal_terms p.goal

  all-constants : constants_in (terms_of (program_in p)) ≡ by all_terms
  unfolding program_in
  all-constants =
      let n = numbering_for p (goal_terms p.goal) in
      constants-append (joined terms_of_clause (clauses_numbered p p.clauses)) (terms_of_goal (goal_numbered n p.goal))
      ∙ rw (clauses-constants p.clauses, goal-terms n p.goal, constants-of n (goal_terms p.goal)) (sym (by_append (joined clause_terms p.clauses) (goal_terms p.goal)))

  constants-by : Appear 0 (length (constant_names p)) (by all_terms)
  unfolding constant_names
  constants-by = appear-adds (lowers all_terms) []

  -- THE LAW: the constants appear in order
  pub constants_appear : Appear 0 (length (constant_names p)) (constants_in (terms_of (program_in p)))
  constants_appear = rw all-constants constants-by
