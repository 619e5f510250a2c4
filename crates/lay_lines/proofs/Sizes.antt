-- How long the records of right clauses and goals are.
use mathlib.Core.Path.{◌≡◌, refl}
use mathlib.Core.Bool.{◌&&◌, true}
use mathlib.Core.List.{[], ◌++◌, ◌∷◌, List, map}
use Prim.Native.Nat.{◌*◌, ◌+◌, ◌≤◌, ℕ}
use lib.Dec.{leb}
use lib.ListN.{length, length-append, length-map}
use borrow.Author.Tests.{leb-true}
use native.Mathlib.Omega.{arith}
use Rattle.lay_lines.specs.Fields.{clause_fields, clause_in}
use Rattle.lay_lines.specs.Lines.{clause_right}
use Rattle.parlog.proofs.Bools.{and-true}
use Rattle.parlog.specs.Program.{Clause}
use Rattle.read_goal.specs.Spans.{goal_right, literal_right, literals_in, stage_right, stages_right}
use Rattle.text_program.proofs.Fields.{terms-length}
use Rattle.text_program.specs.Encoded.{clause_bytes, goal_bytes, literal_bytes, record_bytes, stage_bytes, term_bytes}
use Rattle.text_program.specs.Numbered.{clause_terms, goal_numbered, joined, literal_numbered, Numbering, said_terms, term_numbered, variable_names}
use Rattle.text_program.specs.Parsing.{all_of}
use Rattle.text_program.specs.Source.{calls, equals, Said, SaidClause}

pub args-length : (n : Numbering) (l : Said) → length (literal_numbered n l).args ≡ length (said_terms l)
args-length n (calls p ts) = length-map ts (term_numbered n)
args-length n (equals a b) = refl

literal-long : (n : Numbering) (l : Said) → literal_right l ≡ true → length (literal_bytes (literal_numbered n l)) ≤ 10
unfolding literal_bytes literal_right
literal-long n l e =
    let a = leb-true (length (said_terms l)) 4 e in
    let b = args-length n l in
    let c = terms-length (literal_numbered n l).args in
    omega arith

stage-long : (n : Numbering) (st : List Said) → all_of literal_right st ≡ true → length (joined literal_bytes (map (literal_numbered n) st)) ≤ 10 * length st
unfolding all_of joined
stage-long n [] e = omega arith
stage-long n (l ∷ st) e =
    let p = and-true (literal_right l) (all_of literal_right st) e in
    let a = literal-long n l p.0 in
    let b = stage-long n st p.1 in
    let c = length-append (literal_bytes (literal_numbered n l)) (joined literal_bytes (map (literal_numbered n) st)) in
    omega arith

stages-long : (n : Numbering) (g : List (List Said)) → all_of stage_right g ≡ true → length (joined stage_bytes (goal_numbered n g)) ≤ length g + 10 * literals_in g
unfolding all_of joined stage_right stage_bytes literals_in
stages-long n [] e = omega arith
stages-long n (st ∷ g) e =
    let p = and-true (stage_right st) (all_of stage_right g) e in
    let q = and-true (leb 1 (length st)) (all_of literal_right st) p.0 in
    let a = stage-long n st q.1 in
    let b = stages-long n g p.1 in
    let c = length-append (stage_bytes (map (literal_numbered n) st)) (joined stage_bytes (goal_numbered n g)) in
    omega arith

pub goal-long : (n : Numbering) (g : List (List Said)) → goal_right g ≡ true → length (goal_bytes (goal_numbered n g)) ≤ 89
unfolding goal_right stages_right goal_bytes
goal-long n g e =
    let p = and-true (leb (length g) 8) (all_of stage_right g && leb (literals_in g) 8) e in
    let q = and-true (all_of stage_right g) (leb (literals_in g) 8) p.1 in
    let a = stages-long n g q.0 in
    let b = leb-true (length g) 8 p.0 in
    let c = leb-true (literals_in g) 8 q.1 in
    omega arith

-- the parts of a right clause
pub record Right (c : SaidClause) : Type 0 where
  pub head : length c.terms ≤ 4
  pub vars : length (variable_names (clause_terms c)) ≤ 16
  pub guard : goal_right c.guard ≡ true
  pub body : goal_right c.body ≡ true

pub right-parts : (c : SaidClause) → clause_right c ≡ true → Right c
unfolding clause_right
right-parts c e =
    let p = and-true (leb (length c.terms) 4) (leb (length (variable_names (clause_terms c))) 16 && (goal_right c.guard && goal_right c.body)) e in
    let q = and-true (leb (length (variable_names (clause_terms c))) 16) (goal_right c.guard && goal_right c.body) p.1 in
    let r = and-true (goal_right c.guard) (goal_right c.body) q.1 in
    record { head = leb-true (length c.terms) 4 p.0; vars = leb-true (length (variable_names (clause_terms c))) 16 q.0; guard = r.0; body = r.1 }

-- what stands in the record of a clause
pub clause-record : (c : Clause) → clause_bytes c ≡ record_bytes 2 (clause_fields c)
unfolding clause_bytes clause_fields
clause-record c = refl

pub clause-long : (n : Numbering) (mark : ℕ) (c : SaidClause) → clause_right c ≡ true → length (clause_fields (clause_in n mark c)) ≤ 190
unfolding clause_fields
clause-long n mark c e =
    let p = right-parts c e in
    let a = p.head in
    let b = goal-long n c.guard p.guard in
    let d = goal-long n c.body p.body in
    let f = terms-length (map (term_numbered n) c.terms) in
    let g = length-map c.terms (term_numbered n) in
    let h = length-append (joined term_bytes (map (term_numbered n) c.terms)) (goal_bytes (goal_numbered n c.guard) ++ goal_bytes (goal_numbered n c.body)) in
    let k = length-append (goal_bytes (goal_numbered n c.guard)) (goal_bytes (goal_numbered n c.body)) in
    omega arith
