-- 5 by what the text says.
use mathlib.Core.Path.{◌≡◌, refl}
use mathlib.Core.Bool.{◌&&◌, and-true as true-right, Bool, cond, false, true}
use mathlib.Core.List.{[], ◌++◌, ◌∷◌, List, map}
use Prim.Native.Nat.{◌+◌, ◌-◌, ◌<◌, ◌≤◌, suc, ℕ}
use lib.Dec.{eqb, leb, ltb}
use lib.ListN.{get_or, length, length-map}
use borrow.Author.Tests.{le-ltb, lt-ltb, ltb-true, ne_eqb}
use native.Mathlib.Omega.{arith}
use Rattle.judge_image.specs.Judged.{clause_known, goal_known, literal_known, relation_known, term_known}
use Rattle.lay_lines.specs.Fields.{clause_fits, clause_in}
use Rattle.lay_lines.specs.Lines.{modes_of}
use Rattle.lay_literal.specs.Fits.{goal_fits, stage_fits}
use Rattle.lay_literal.specs.Lows.{literal_fits}
use Rattle.parlog.proofs.Bools.{and-true}
use Rattle.parlog.specs.Image.{term_of}
use Rattle.parlog.specs.Names.{follows, term_named}
use Rattle.parlog.specs.declared.Progress.{Progress}
use Rattle.parlog.specs.declared.Term.TheVariants.{Const, Var}
use Rattle.read_names.specs.Tables.{arity_for, mode_names}
use Rattle.text_names.specs.Names.{known, look, Name, same_name}
use Rattle.text_program.proofs.Joined.{all-parts}
use Rattle.text_program.specs.Numbered.{clause_terms, goal_numbered, goal_terms, is_upper, joined, literal_numbered, Numbering, said_terms, term_numbered}
use Rattle.text_program.specs.Parsing.{all_of, clause_declared, goal_declared, literal_declared}
use Rattle.text_program.specs.Source.{calls, equals, ModeLine, Said, SaidClause}

-- ---- relations

-- a name that has a mode line has the arity of that line
arity-told : (ms : List ModeLine) (x : Name) → known (mode_names ms) x ≡ true → length (get_or (modes_of ms) (look (mode_names ms) x) []) ≡ arity_for ms x
unfolding look arity_for
arity-told [] x e = absurd (let z = ltb-true 0 0 e in omega arith)
arity-told (m ∷ ms) x e = go (same_name m.name x) refl (λ h. arity-told ms x h)
  where
    go : (b : Bool) → same_name m.name x ≡ b → (known (mode_names ms) x ≡ true → length (get_or (modes_of ms) (look (mode_names ms) x) []) ≡ arity_for ms x) → length (get_or (modes_of (m ∷ ms)) (cond b 0 (suc (look (mode_names ms) x))) []) ≡ cond b (length m.modes) (arity_for ms x)
    go true f k = refl
    go false f k = k (let h : suc (look (mode_names ms) x) < suc (length (mode_names ms)) = ltb-true (suc (look (mode_names ms) x)) (suc (length (mode_names ms))) (rw f at e) in lt-ltb (look (mode_names ms) x) (length (mode_names ms)) (omega arith))

relation-told : (ms : List ModeLine) (x : Name) (a : ℕ) → known (mode_names ms) x ≡ true → relation_known (modes_of ms) (look (mode_names ms) x) a ≡ eqb a (arity_for ms x)
unfolding relation_known
relation-told ms x a e = rw (length-map ms (λ (m : ModeLine). m.modes), ← length-map ms (λ (m : ModeLine). m.name), e, arity-told ms x e)

-- ---- terms

-- the number of a name is one that a term may have
unfoldable pub term_okay : Numbering → Name → Bool
term_okay n x = cond (is_upper x) (known n.variables x) (ltb (look n.constants x) 32768)

term-var : (vars v : ℕ) → ltb v vars ≡ true → term_named vars (term_of (32768 + v)) ≡ true
term-var vars v e = rw (le-ltb (32768 + v) 32768 (omega arith)) (let z : 32768 + v - 32768 ≡ v = omega arith in rw z e)

term-const : (vars c : ℕ) → ltb c 32768 ≡ true → term_named vars (term_of c) ≡ true
term-const vars c e = rw e refl

term-okay : (n : Numbering) (x : Name) → term_okay n x ≡ true → term_known (length n.variables) (term_numbered n x) ≡ true
unfolding term_okay term_numbered
term-okay n x = go (is_upper x)
  where
    go : (b : Bool) → cond b (known n.variables x) (ltb (look n.constants x) 32768) ≡ true → term_known (length n.variables) (cond b (Var (look n.variables x)) (Const (look n.constants x))) ≡ true
    go true e = term-var (length n.variables) (look n.variables x) e
    go false e = term-const (length n.variables) (look n.constants x) e

terms-okay : (n : Numbering) (xs : List Name) → all_of (term_okay n) xs ≡ true → all_of (term_known (length n.variables)) (map (term_numbered n) xs) ≡ true
unfolding all_of
terms-okay n [] e = refl
terms-okay n (x ∷ xs) e = let p = and-true (term_okay n x) (all_of (term_okay n) xs) e in rw (term-okay n x p.0, terms-okay n xs p.1)

-- ---- literals and goals

module _ (ms : List ModeLine) (n : Numbering) (few : length ms ≤ 32) (rels : n.relations ≡ mode_names ms) where
  not-equality : (x : Name) → known (mode_names ms) x ≡ true → eqb (look (mode_names ms) x) 255 ≡ false
  not-equality x e = let a = ltb-true (look (mode_names ms) x) (length (mode_names ms)) e in let b = length-map ms (λ (m : ModeLine). m.name) in ne_eqb (look (mode_names ms) x) 255 (λ z. omega arith)

  literal-told : (l : Said) → literal_declared (mode_names ms) l ≡ true → all_of (term_okay n) (said_terms l) ≡ true → literal_known (modes_of ms) (length n.variables) (literal_numbered n l) ≡ literal_fits true ms l
  unfolding literal_known literal_fits
  literal-told (calls p ts) d t =
      rw (length-map ts (term_numbered n), terms-okay n ts t, rels, not-equality p d, relation-told ms p (length ts) d) (true-right (eqb (length ts) (arity_for ms p)))
  literal-told (equals a b) d t = terms-okay n (a ∷ b ∷ []) t

  stage-told : (st : List Said) → all_of (literal_declared (mode_names ms)) st ≡ true → all_of (term_okay n) (joined said_terms st) ≡ true → all_of (literal_known (modes_of ms) (length n.variables)) (map (literal_numbered n) st) ≡ stage_fits true ms st
  unfolding stage_fits all_of joined
  stage-told [] d t = refl
  stage-told (l ∷ st) d t =
      let p = and-true (literal_declared (mode_names ms) l) (all_of (literal_declared (mode_names ms)) st) d in
      let q = all-parts (term_okay n) (said_terms l) (joined said_terms st) t in
      rw (literal-told l p.0 q.0, stage-told st p.1 q.1)

  pub goal-told : (g : List (List Said)) → goal_declared (mode_names ms) g ≡ true → all_of (term_okay n) (goal_terms g) ≡ true → goal_known (modes_of ms) (length n.variables) (goal_numbered n g) ≡ goal_fits true ms g
  unfolding goal_known goal_fits all_of joined
  goal-told [] d t = refl
  goal-told (st ∷ g) d t =
      let p = and-true (all_of (literal_declared (mode_names ms)) st) (goal_declared (mode_names ms) g) d in
      let q = all-parts (term_okay n) (joined said_terms st) (goal_terms g) t in
      rw (stage-told st p.0 q.0, goal-told g p.1 q.1)

-- ---- clauses

and-shuffle : (f l g b : Bool) → ((f && (l && true)) && (true && (g && b))) ≡ ((f && (g && b)) && l)
and-shuffle true true true true = refl
and-shuffle true true true false = refl
and-shuffle true true false b = refl
and-shuffle true false true true = refl
and-shuffle true false true false = refl
and-shuffle true false false b = refl
and-shuffle false l g b = refl

pub clause-told : (ms : List ModeLine) (n : Numbering) → length ms ≤ 32 → n.relations ≡ mode_names ms → (c : SaidClause) (g : Progress) (mark : ℕ) → clause_declared (mode_names ms) c ≡ true → all_of (term_okay n) (clause_terms c) ≡ true →
    cond (follows g (look (mode_names ms) c.name)) true (eqb mark 0) ≡ true → clause_known (modes_of ms) g (clause_in n mark c) ≡ (clause_fits true ms c && leb g.relation (look (mode_names ms) c.name))
unfolding clause_known clause_fits literal_fits
clause-told ms n few rels c g mark d t m =
    let p = and-true (known (mode_names ms) c.name) (goal_declared (mode_names ms) c.guard && goal_declared (mode_names ms) c.body) d in
    let q = and-true (goal_declared (mode_names ms) c.guard) (goal_declared (mode_names ms) c.body) p.1 in
    let u = all-parts (term_okay n) c.terms (goal_terms c.guard ++ goal_terms c.body) t in
    let v = all-parts (term_okay n) (goal_terms c.guard) (goal_terms c.body) u.1 in
    rw (length-map c.terms (term_numbered n), terms-okay n c.terms u.0, goal-told ms n few rels c.guard q.0 v.0, goal-told ms n few rels c.body q.1 v.1, rels, relation-told ms c.name (length c.terms) p.0, m)
    (and-shuffle (eqb (length c.terms) (arity_for ms c.name)) (leb g.relation (look (mode_names ms) c.name)) (goal_fits true ms c.guard) (goal_fits true ms c.body))
