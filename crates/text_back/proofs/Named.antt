-- A program can be printed exactly where all that it uses has a name.
use mathlib.Core.Path.{◌≡◌, refl}
use mathlib.Core.Bool.{◌&&◌, Bool, cond, false, true}
use mathlib.Core.List.{[], ◌++◌, ◌∷◌, List}
use Prim.Native.Nat.{◌+◌, ◌<◌, ◌≤◌, suc, zero, ℕ}
use lib.Dec.{eqb}
use lib.ListN.{length}
use borrow.Author.Tests.{eqb-false}
use native.Mathlib.Omega.{arith}
use Rattle.std.proofs.lemmas.Bool.{and_parts, and_from}
use Rattle.parlog.specs.Orders.{Each}
use Rattle.parlog.specs.Program.{Clause, Goal, Literal, Program}
use Rattle.parlog.specs.declared.Term.{Term}
use Rattle.parlog.specs.declared.Term.TheVariants.{Const, Var}
use Rattle.text_back.proofs.Items.{TermOk}
use Rattle.text_back.proofs.Numbers.{ClauseMade, clauses-terms-ok, each-also, each-join, each_left, each-parts, each_right, goal-terms-ok, GoalMade, lines_ok, LiteralMade, Made, rows-each}
use Rattle.text_back.specs.Back.{constants_in, terms_of, terms_of_clause, terms_of_goal}
use Rattle.text_names.specs.Entries.{is_entry}
use Rattle.text_program.specs.Numbered.{joined}
use Rattle.text_program.specs.Parsing.{all_of}
use Rattle.text_program.specs.Printing.{clause_named, goal_named, literal_named, program_named, relations_named, term_named}

-- ---- all that is named has a name

each_all : {A : Type 0} (f : A → Bool) (xs : List A) → Each (λ x. f x ≡ true) xs → all_of f xs ≡ true
unfolding all_of
each_all f [] e = refl
each_all f (x ∷ xs) e = and_from (f x) (all_of f xs) e.0 (each_all f xs e.1)

abbrev pub ConstantNamed : ℕ → List ℕ → ℕ → Type 0
ConstantNamed r nm c = is_entry nm (r + c) ≡ true

module _ (r : ℕ) (nm : List ℕ) (relations : (k : ℕ) → k < r → is_entry nm k ≡ true) where
  terms-named : (ts : List Term) → Each (ConstantNamed r nm) (constants_in ts) → Each (TermOk r nm) ts
  unfolding constants_in term_named
  terms-named [] e = tt
  terms-named (Const c ∷ ts) e = (e.0, terms-named ts e.1)
  terms-named (Var v ∷ ts) e = (refl, terms-named ts e)

  literal-named : (l : Literal) → LiteralMade r l → Each (TermOk r nm) l.args → literal_named r nm l ≡ true
  unfolding literal_named
  literal-named l m e = go (eqb l.rel 255) refl (each_all (term_named r nm) l.args e)
    where
      go : (b : Bool) → eqb l.rel 255 ≡ b → all_of (term_named r nm) l.args ≡ true → cond b (all_of (term_named r nm) l.args) (is_entry nm l.rel && all_of (term_named r nm) l.args) ≡ true
      go true f e = e
      go false f e = and_from (is_entry nm l.rel) (all_of (term_named r nm) l.args) (relations l.rel (m.known (eqb-false l.rel 255 f))) e

  abbrev Args : Literal → Type 0
  Args l = Each (TermOk r nm) l.args

  goal-named : (g : Goal) → GoalMade r g → Each (TermOk r nm) (terms_of_goal g) → goal_named r nm g ≡ true
  goal-named g m e =
      each_all (all_of (literal_named r nm)) g
      (each-also (Each (LiteralMade r)) (λ st. Each (TermOk r nm) (joined (λ (l : Literal). l.args) st)) (λ st. all_of (literal_named r nm) st ≡ true)
      (λ st a b. each_all (literal_named r nm) st (each-also (LiteralMade r) Args (λ l. literal_named r nm l ≡ true) literal-named st a (each-parts (TermOk r nm) (λ (l : Literal). l.args) st b)))
      g (rows-each (LiteralMade r) g m) (each-parts (TermOk r nm) (joined (λ (l : Literal). l.args)) g e))

  clause-named : (c : Clause) → ClauseMade r c → Each (TermOk r nm) (terms_of_clause c) → clause_named r nm c ≡ true
  clause-named c m e =
      let g = terms_of_goal c.guard in
      let b = terms_of_goal c.body in
      let f = each_right (TermOk r nm) c.head (g ++ b) e in
      and_from (is_entry nm c.rel) _ (relations c.rel m.known)
      (and_from (all_of (term_named r nm) c.head) _ (each_all (term_named r nm) c.head (each_left (TermOk r nm) c.head (g ++ b) e))
      (and_from (goal_named r nm c.guard) (goal_named r nm c.body) (goal-named c.guard m.guard (each_left (TermOk r nm) g b f)) (goal-named c.body m.body (each_right (TermOk r nm) g b f))))

  relations-named : (k : ℕ) (mss : List (List ℕ)) → k + length mss ≤ r → relations_named r nm k mss ≡ true
  unfolding relations_named
  relations-named k [] h = refl
  relations-named k (ms ∷ mss) h = and_from (is_entry nm k) (relations_named r nm (suc k) mss) (relations k (omega arith)) (relations-named (suc k) mss (omega arith))

-- THE LAW: with a name for each relation and each constant in use, the program can be printed
pub program-named : (nm : List ℕ) (pr : Program) → Made pr → ((k : ℕ) → k < length pr.relations → is_entry nm k ≡ true) → Each (ConstantNamed (length pr.relations) nm) (constants_in (terms_of pr)) → program_named nm pr ≡ true
unfolding program_named
program-named nm pr m rs e =
    let r = length pr.relations in
    let ts = terms-named r nm rs (terms_of pr) e in
    let front = joined terms_of_clause pr.clauses in
    let last = terms_of_goal pr.goal in
    and_from (relations_named r nm 0 pr.relations) _ (relations-named r nm rs 0 pr.relations (omega arith))
    (and_from (all_of (clause_named r nm) pr.clauses) (goal_named r nm pr.goal)
    (each_all (clause_named r nm) pr.clauses (each-also (ClauseMade r) (λ c. Each (TermOk r nm) (terms_of_clause c)) (λ c. clause_named r nm c ≡ true) (clause-named r nm rs) pr.clauses m.clauses
    (each-parts (TermOk r nm) terms_of_clause pr.clauses (each_left (TermOk r nm) front last ts))))
    (goal-named r nm rs pr.goal m.goal (each_right (TermOk r nm) front last ts)))

-- ---- and the other way

constants-named : (r : ℕ) (nm : List ℕ) (ts : List Term) → Each (TermOk r nm) ts → Each (ConstantNamed r nm) (constants_in ts)
unfolding constants_in term_named
constants-named r nm [] e = tt
constants-named r nm (Const c ∷ ts) e = (e.0, constants-named r nm ts e.1)
constants-named r nm (Var v ∷ ts) e = constants-named r nm ts e.1

named-relation : (r : ℕ) (nm : List ℕ) (k i : ℕ) (mss : List (List ℕ)) → relations_named r nm k mss ≡ true → i < length mss → is_entry nm (k + i) ≡ true
unfolding relations_named
named-relation r nm k i [] e h = absurd (omega arith)
named-relation r nm k zero (ms ∷ mss) e h = let z : k + 0 ≡ k = omega arith in rw z (and_parts (is_entry nm k) (relations_named r nm (suc k) mss) e).0
named-relation r nm k (suc i) (ms ∷ mss) e h =
    let z : suc k + i ≡ k + suc i = omega arith in
    (rw z at (named-relation r nm (suc k) i mss (and_parts (is_entry nm k) (relations_named r nm (suc k) mss) e).1 (omega arith)))

pub record AllNamed (nm : List ℕ) (pr : Program) : Type 0 where
  pub relations : (k : ℕ) → k < length pr.relations → is_entry nm k ≡ true
  pub constants : Each (ConstantNamed (length pr.relations) nm) (constants_in (terms_of pr))

pub named-program : (nm : List ℕ) (pr : Program) → Made pr → program_named nm pr ≡ true → AllNamed nm pr
named-program nm pr m e =
    let r = length pr.relations in
    let ok = lines_ok nm pr m e in
    record {
      relations = λ k h. (let z : 0 + k ≡ k = omega arith in (rw z at (named-relation r nm 0 k pr.relations ok.relations h)));
      constants = constants-named r nm (terms_of pr) (each-join (TermOk r nm) (joined terms_of_clause pr.clauses) (terms_of_goal pr.goal) (clauses-terms-ok r nm pr.clauses ok.clauses) (goal-terms-ok r nm pr.goal ok.goal));
    }
