-- A text's image that is not too long has few constants.
use mathlib.Core.Path.{◌≡◌, ap, refl}
use mathlib.Core.Bool.{◌&&◌, Bool, cond, false, true}
use mathlib.Core.List.{[], ◌++◌, ◌∷◌, List, map}
use Prim.Native.Nat.{◌*◌, ◌<◌, ◌≤◌, suc, ℕ}
use lib.ListN.{length, length-append, length-map}
use native.Mathlib.Omega.{arith}
use Rattle.parlog.specs.Orders.{Each}
use Rattle.parlog.specs.Program.{Goal}
use Rattle.parlog.specs.declared.Term.TheVariants.{Const, Var}
use Rattle.text_loads.specs.Loads.{ClauseFits, GoalFits, LiteralFits, ProgramFits, TermFits}
use Rattle.text_names.proofs.Added.{adds-length}
use Rattle.text_names.proofs.Looked.{look-most}
use Rattle.text_names.specs.Names.{look, Name, same_name}
use Rattle.text_program.proofs.Fields.{record-length, terms-length}
use Rattle.text_program.proofs.Joined.{lowers-length}
use Rattle.text_program.specs.Encoded.{ask_bytes, clause_bytes, goal_bytes, literal_bytes, program_bytes, relation_bytes, stage_bytes, term_bytes}
use Rattle.text_program.specs.Numbered.{clause_numbered, clauses_behind, clauses_numbered, clause_terms, constant_names, goal_numbered, goal_terms, is_upper, joined, literal_numbered, lowers, mark_by, Numbering, numbering_for, program_in, relation_names, said_terms, term_numbered}
use Rattle.text_program.specs.Parsing.{image_in}
use Rattle.text_program.specs.Source.{calls, equals, ModeLine, Said, SaidClause, Source}

-- ---- two bytes for each term

joined-size : {A B : Type 0} (f : A → List Name) (g : A → B) (h : B → List ℕ) → ((x : A) → 2 * length (f x) ≤ length (h (g x))) → (xs : List A) → 2 * length (joined f xs) ≤ length (joined h (map g xs))
unfolding joined
joined-size f g h o [] = omega arith
joined-size f g h o (x ∷ xs) =
    omega (arith, o x, joined-size f g h o xs, length-append (f x) (joined f xs), length-append (h (g x)) (joined h (map g xs)))

module _ (n : Numbering) where
  literal-size : (l : Said) → 2 * length (said_terms l) ≤ length (literal_bytes (literal_numbered n l))
  unfolding literal_bytes
  literal-size (calls p ts) = omega (arith, terms-length (map (term_numbered n) ts), length-map ts (term_numbered n))
  literal-size (equals a b) = omega (arith, terms-length (term_numbered n a ∷ term_numbered n b ∷ []))

  stage-size : (st : List Said) → 2 * length (joined said_terms st) ≤ length (stage_bytes (map (literal_numbered n) st))
  unfolding stage_bytes
  stage-size st = omega (arith, joined-size said_terms (literal_numbered n) literal_bytes literal-size st)

  goal-size : (g : List (List Said)) → 2 * length (goal_terms g) ≤ length (goal_bytes (goal_numbered n g))
  unfolding goal_bytes
  goal-size g = omega (arith, joined-size (joined said_terms) (map (literal_numbered n)) stage_bytes stage-size g)

clause-size : (p : Source) (b : Bool) (c : SaidClause) → 2 * length (clause_terms c) ≤ length (clause_bytes (clause_numbered p b c))
unfolding clause_bytes
clause-size p b c =
    let n = numbering_for p (clause_terms c) in
    let hs = joined term_bytes (map (term_numbered n) c.terms) in
    let gs = goal_bytes (goal_numbered n c.guard) in
    let bs = goal_bytes (goal_numbered n c.body) in
    omega (
      arith,
      record-length 2 (look (relation_names p) c.name ∷ length (map (term_numbered n) c.terms) ∷ mark_by b ∷ length n.variables ∷ (hs ++ (gs ++ bs))),
      terms-length (map (term_numbered n) c.terms),
      length-map c.terms (term_numbered n),
      goal-size n c.guard,
      goal-size n c.body,
      length-append hs (gs ++ bs),
      length-append gs bs,
      length-append c.terms (goal_terms c.guard ++ goal_terms c.body),
      length-append (goal_terms c.guard) (goal_terms c.body),
    )

behind-size : (p : Source) (b : SaidClause) (cs : List SaidClause) → 2 * length (joined clause_terms cs) ≤ length (joined clause_bytes (clauses_behind p b cs))
unfolding joined clauses_behind
behind-size p b [] = omega arith
behind-size p b (c ∷ cs) =
    let x = clause_bytes (clause_numbered p (b.semicolon && same_name b.name c.name) c) in
    omega (arith, clause-size p (b.semicolon && same_name b.name c.name) c, behind-size p c cs, length-append (clause_terms c) (joined clause_terms cs), length-append x (joined clause_bytes (clauses_behind p c cs)))

clauses-size : (p : Source) (cs : List SaidClause) → 2 * length (joined clause_terms cs) ≤ length (joined clause_bytes (clauses_numbered p cs))
unfolding joined clauses_numbered
clauses-size p [] = omega arith
clauses-size p (c ∷ cs) =
    let x = clause_bytes (clause_numbered p false c) in
    omega (arith, clause-size p false c, behind-size p c cs, length-append (clause_terms c) (joined clause_terms cs), length-append x (joined clause_bytes (clauses_behind p c cs)))

ask-size : (k : ℕ) (g : Goal) → length (goal_bytes g) ≤ length (ask_bytes k g)
unfolding ask_bytes
ask-size k g = omega (arith, record-length 3 (k ∷ goal_bytes g))

few-constants : (p : Source) → 2 * length (constant_names p) ≤ length (image_in p)
unfolding constant_names image_in program_in program_bytes
few-constants p =
    let n = numbering_for p (goal_terms p.goal) in
    let ts = joined clause_terms p.clauses ++ goal_terms p.goal in
    let fs = joined relation_bytes (map (λ (m : ModeLine). m.modes) p.modes) in
    let cs = joined clause_bytes (clauses_numbered p p.clauses) in
    let gs = ask_bytes (length n.variables) (goal_numbered n p.goal) in
    omega (
      arith,
      adds-length (lowers ts) [],
      lowers-length ts,
      length-append (joined clause_terms p.clauses) (goal_terms p.goal),
      clauses-size p p.clauses,
      goal-size n p.goal,
      ask-size (length n.variables) (goal_numbered n p.goal),
      length-append fs (cs ++ gs),
      length-append cs gs,
    )

-- ---- so that they are constants

each_map : {A B : Type 0} (P : B → Type 0) (g : A → B) → ((x : A) → P (g x)) → (xs : List A) → Each P (map g xs)
each_map P g o [] = tt
each_map P g o (x ∷ xs) = (o x, each_map P g o xs)

module _ (n : Numbering) (h : length n.constants < 32768) where
  term_fits : (x : Name) → TermFits (term_numbered n x)
  unfolding term_numbered
  term_fits x = go (is_upper x)
    where
      go : (b : Bool) → TermFits (cond b (Var (look n.variables x)) (Const (look n.constants x)))
      go true = tt
      go false = let m = look-most n.constants x in omega arith

  literal-fits : (l : Said) → LiteralFits (literal_numbered n l)
  literal-fits (calls p ts) = each_map TermFits (term_numbered n) term_fits ts
  literal-fits (equals a b) = (term_fits a, (term_fits b, tt))

  goal-fits : (g : List (List Said)) → GoalFits (goal_numbered n g)
  goal-fits g = each_map (Each LiteralFits) (map (literal_numbered n)) (λ st. each_map LiteralFits (literal_numbered n) literal-fits st) g

module _ (p : Source) (h : length (constant_names p) < 32768) where
  clause-fits : (b : Bool) (c : SaidClause) → ClauseFits (clause_numbered p b c)
  clause-fits b c =
      let n = numbering_for p (clause_terms c) in
      record { head = each_map TermFits (term_numbered n) (term_fits n h) c.terms; guard = goal-fits n h c.guard; body = goal-fits n h c.body }

  behind-fits : (b : SaidClause) (cs : List SaidClause) → Each ClauseFits (clauses_behind p b cs)
  unfolding clauses_behind
  behind-fits b [] = tt
  behind-fits b (c ∷ cs) = (clause-fits (b.semicolon && same_name b.name c.name) c, behind-fits c cs)

  clauses-fit : (cs : List SaidClause) → Each ClauseFits (clauses_numbered p cs)
  unfolding clauses_numbered
  clauses-fit [] = tt
  clauses-fit (c ∷ cs) = (clause-fits false c, behind-fits c cs)

  pub program-fits : ProgramFits (program_in p)
  unfolding program_in
  program-fits = record { clauses = clauses-fit p.clauses; goal = goal-fits (numbering_for p (goal_terms p.goal)) h p.goal }

-- THE LAW: an image that is not too long can be read back
pub short-fits : (p : Source) → length (image_in p) ≤ 32768 → ProgramFits (program_in p)
short-fits p h = program-fits p (omega (arith, few-constants p))

-- ---- how many relations and clauses the program has

behind-many : (p : Source) (b : SaidClause) (cs : List SaidClause) → length (clauses_behind p b cs) ≡ length cs
unfolding clauses_behind
behind-many p b [] = refl
behind-many p b (c ∷ cs) = ap suc (behind-many p c cs)

pub clauses-many : (p : Source) (cs : List SaidClause) → length (clauses_numbered p cs) ≡ length cs
unfolding clauses_numbered
clauses-many p [] = refl
clauses-many p (c ∷ cs) = ap suc (behind-many p c cs)

pub program-relations : (p : Source) → length (program_in p).relations ≡ length p.modes
unfolding program_in
program-relations p = length-map p.modes (λ (m : ModeLine). m.modes)

pub program-clauses : (p : Source) → length (program_in p).clauses ≡ length p.clauses
unfolding program_in
program-clauses p = clauses-many p p.clauses
