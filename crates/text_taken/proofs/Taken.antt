-- A text that passes 4, 5 and 6 is right, and short.
use Rattle.std.specs.Prelude.{Result, Ok, Err}
use Rattle.parlog.specs.Answer.{Answer}
use mathlib.Core.Path.{◌∙◌, ◌≡◌, ap, refl}
use mathlib.Core.Bool.{◌&&◌, Bool, false, not, true}
use mathlib.Core.List.{[], ◌++◌, ◌∷◌, List}
use Prim.Native.Nat.{◌*◌, ◌+◌, ◌≤◌, ℕ}
use lib.Dec.{eqb, leb, ltb}
use lib.ListN.{length, length-append}
use borrow.Author.Tests.{le-leb, leb-true}
use native.Mathlib.Omega.{arith}
use Rattle.judge_image.proofs.Counts.{few-clauses, few-relations, more-clauses, more-relations}
use Rattle.judge_image.specs.Judged.{judged, progress_of, relation_judged, relation_sized, relations_judged, taken}
use Rattle.judge_lines.proofs.Judging.{size_small}
use Rattle.judge_lines.proofs.Moded.{mode-few, mode-length}
use Rattle.judge_said.proofs.Clauses.{clause-few}
use Rattle.judge_said.proofs.Sized.{clause-size}
use Rattle.judge_said.proofs.Told.{ask-parts}
use Rattle.judge_said.specs.Said.{ask_right, ask_said, clause_said, clause_size, clauses_said}
use Rattle.lay_lines.proofs.Sizes.{goal-long}
use Rattle.lay_lines.specs.Fields.{clause_in}
use Rattle.lay_lines.specs.Imaged.{asking, ask_with, image_with}
use Rattle.lay_lines.specs.Lines.{clause_right, clauses_with, modes_of, modes_right, with_vars}
use Rattle.parlog.proofs.Bools.{and-true}
use Rattle.parlog.specs.Load.{after, block_with, kind_fault, refusal, refuse_if, too_many}
use Rattle.parlog.specs.declared.Progress.{Progress}
use Rattle.read_names.specs.Tables.{mode_names}
use Rattle.text_names.specs.Names.{look, Name, same_name}
use Rattle.text_program.proofs.Fields.{record-length}
use Rattle.text_program.specs.Encoded.{ask_bytes, clause_bytes, goal_bytes, relation_bytes}
use Rattle.text_program.specs.Numbered.{clause_terms, goal_numbered, goal_terms, joined, mark_by, variable_names}
use Rattle.text_program.specs.Parsing.{all_of, once_by, repeated}
use Rattle.text_program.specs.Source.{ModeLine, Said, SaidClause}

-- ---- a verdict that goes on

abbrev is_taken : Answer (ℕ × ℕ) → ℕ
is_taken (Err r) = 0
is_taken (Ok (a, b)) = 1

refused-never : {P : Type 0} (n at a b : ℕ) → ◌≡◌ {A = Answer (ℕ × ℕ)} (Err (refusal n at)) (Ok (a, b)) → P
refused-never n at a b e = absurd (let z = ap is_taken e in omega arith)

-- a record that is followed by others was right, and was not one too many
judged-on : (f : Progress → Answer (ℕ × ℕ)) (at : ℕ) (g : Progress) (kind : ℕ) (sized known : Bool) (r mark a b : ℕ) → after f at (judged g kind sized known r mark) ≡ Ok (a, b) → (sized ≡ true) × (too_many g kind ≡ false) × (f (progress_of g kind r mark) ≡ Ok (a, b))
unfolding judged
judged-on f at g kind sized known r mark a b = go (kind_fault g kind) (too_many g kind) sized known (eqb kind 2 && ltb 8 (block_with g r mark))
  where
    go : (u v w x y : Bool) → after f at (refuse_if u 3 (refuse_if v 6 (refuse_if (not w) 4 (refuse_if (not x) 5 (refuse_if y 6 (Ok (progress_of g kind r mark))))))) ≡ Ok (a, b) → (w ≡ true) × (v ≡ false) × (f (progress_of g kind r mark) ≡ Ok (a, b))
    go true v w x y e = refused-never 3 at a b e
    go false true w x y e = refused-never 6 at a b e
    go false false false x y e = refused-never 4 at a b e
    go false false true false y e = refused-never 5 at a b e
    go false false true true true e = refused-never 6 at a b e
    go false false true true false e = (refl, refl, e)

once-on : (f : Progress → Answer (ℕ × ℕ)) (at : ℕ) (c : Bool) (v : Result Progress ℕ) (a b : ℕ) → after f at (once_by c v) ≡ Ok (a, b) → after f at v ≡ Ok (a, b)
once-on f at c (Err n) a b e = e
once-on f at true (Ok g) a b e = refused-never 5 at a b e
once-on f at false (Ok g) a b e = e

-- ---- relations

-- what the relations leave: somewhere the rest is taken
pub record Onward (f : ℕ → Progress → Answer (ℕ × ℕ)) (a b : ℕ) : Type 0 where
  pub at : ℕ
  pub g : Progress
  pub none : g.clauses ≡ 0
  pub on : f at g ≡ Ok (a, b)

pub record ModesTaken (ms : List ModeLine) (f : ℕ → Progress → Answer (ℕ × ℕ)) (a b : ℕ) : Type 0 where
  pub right : modes_right ms ≡ true
  pub sized : all_of relation_sized (modes_of ms) ≡ true
  pub rest : Onward f a b

pub modes-taken : (names : List Name) (f : ℕ → Progress → Answer (ℕ × ℕ)) (a b : ℕ) (ms : List ModeLine) (at : ℕ) (g : Progress) → g.clauses ≡ 0 → g.relations ≤ 32 → relations_judged names f (modes_of ms) at g ≡ Ok (a, b) → ModesTaken ms f a b × (g.relations + length ms ≤ 32)
unfolding relations_judged relation_judged modes_right all_of
modes-taken names f a b [] at g z l e = (record { right = refl; sized = refl; rest = record { at = at; g = g; none = z; on = e } }, omega arith)
modes-taken names f a b (m ∷ ms) at g z l e =
    let p = judged-on (relations_judged names f (modes_of ms) (at + length (relation_bytes m.modes))) at g 1 (relation_sized m.modes) true 0 0 a b (once-on _ at (repeated names g.relations) (judged g 1 (relation_sized m.modes) true 0 0) a b e) in
    let h = few-relations g p.1 in
    let n = more-relations g in
    let n0 = n.0 in
    let q = modes-taken names f a b ms (at + length (relation_bytes m.modes)) (progress_of g 1 0 0) (n.1 ∙ z) (omega arith) p.2 in
    let s = mode-few m.modes p.0 in
    let t = q.1 in
    (record { right = rw (le-leb (length m.modes) 4 s) q.0.right; sized = rw p.0 q.0.sized; rest = q.0.rest }, omega arith)

-- ---- clauses

pub record ClausesTaken (cs : List SaidClause) (f : ℕ → Progress → Answer (ℕ × ℕ)) (a b : ℕ) : Type 0 where
  pub right : all_of clause_right cs ≡ true
  pub at : ℕ
  pub g : Progress
  pub on : f at g ≡ Ok (a, b)

pub clauses-taken : (ms : List ModeLine) (f : ℕ → Progress → Answer (ℕ × ℕ)) (a b : ℕ) (cs : List SaidClause) (semicolon : Bool) (name : Name) (at : ℕ) (g : Progress) → g.clauses ≤ 64 → clauses_said ms f semicolon name cs at g ≡ Ok (a, b) → ClausesTaken cs f a b × (g.clauses + length cs ≤ 64)
unfolding clauses_said clause_said all_of
clauses-taken ms f a b [] semicolon name at g l e = (record { right = refl; at = at; g = g; on = e }, omega arith)
clauses-taken ms f a b (c ∷ cs) semicolon name at g l e =
    let p = judged-on (clauses_said ms f c.semicolon c.name cs (at + clause_size c)) at g 2 (clause_right c) _ _ _ a b e in
    let h = few-clauses g p.1 in
    let n = (more-clauses g (look (mode_names ms) c.name) (mark_by (semicolon && same_name name c.name))).0 in
    let q = clauses-taken ms f a b cs c.semicolon c.name (at + clause_size c) (progress_of g 2 (look (mode_names ms) c.name) (mark_by (semicolon && same_name name c.name))) (omega arith) p.2 in
    let t = q.1 in
    (record { right = rw p.0 q.0.right; at = q.0.at; g = q.0.g; on = q.0.on }, omega arith)

pub ask-taken : (ms : List ModeLine) (g : Progress) (q : List (List Said)) (at a b : ℕ) → after taken at (ask_said ms g q) ≡ Ok (a, b) → ask_right q ≡ true
unfolding ask_said
ask-taken ms g q at a b e = (judged-on taken at g 3 (ask_right q) _ 0 0 a b e).0

-- ---- how many terms, and how long

pub terms-few : (cs : List SaidClause) → all_of clause_right cs ≡ true → length (joined clause_terms cs) ≤ 68 * length cs
unfolding joined all_of
terms-few [] e = omega arith
terms-few (c ∷ cs) e =
    let p = and-true (clause_right c) (all_of clause_right cs) e in
    let a = clause-few c p.0 in
    let b = terms-few cs p.1 in
    let d = length-append (clause_terms c) (joined clause_terms cs) in
    omega arith

modes-long : (ms : List ModeLine) → modes_right ms ≡ true → length (joined relation_bytes (modes_of ms)) ≤ 9 * length ms
unfolding joined all_of modes_right
modes-long [] e = omega arith
modes-long (m ∷ ms) e =
    let p = and-true (leb (length m.modes) 4) (all_of (λ (m : ModeLine). leb (length m.modes) 4) ms) e in
    let a = leb-true (length m.modes) 4 p.0 in
    let b = modes-long ms p.1 in
    let c = mode-length m.modes in
    let d = length-append (relation_bytes m.modes) (joined relation_bytes (modes_of ms)) in
    omega arith

clauses-long : (rels consts : List Name) (b : Bool) (name : Name) (cs : List SaidClause) → all_of clause_right cs ≡ true → length (joined clause_bytes (clauses_with rels consts b name cs)) ≤ 194 * length cs
unfolding joined all_of clauses_with
clauses-long rels consts b name [] e = omega arith
clauses-long rels consts b name (c ∷ cs) e =
    let p = and-true (clause_right c) (all_of clause_right cs) e in
    let a = size_small c p.0 in
    let k = clause-size (with_vars rels consts c) (mark_by (b && same_name name c.name)) c in
    let l = clauses-long rels consts c.semicolon c.name cs p.1 in
    let d = length-append (clause_bytes (clause_in (with_vars rels consts c) (mark_by (b && same_name name c.name)) c)) (joined clause_bytes (clauses_with rels consts c.semicolon c.name cs)) in
    omega arith

ask-long : (rels consts : List Name) (g : List (List Said)) → ask_right g ≡ true → length (ask_with rels consts g) ≤ 94
unfolding ask_with ask_bytes
ask-long rels consts g e =
    let a = goal-long (asking rels consts g) g (ask-parts g e).1 in
    let b = record-length 3 (length (variable_names (goal_terms g)) ∷ goal_bytes (goal_numbered (asking rels consts g) g)) in
    omega arith

pub image-long : (ms : List ModeLine) (consts : List Name) (cs : List SaidClause) (g : List (List Said)) → modes_right ms ≡ true → length ms ≤ 32 → all_of clause_right cs ≡ true → length cs ≤ 64 → ask_right g ≡ true → length (image_with ms consts cs g) ≤ 12798
unfolding image_with
image-long ms consts cs g m lm c lc r =
    let a = modes-long ms m in
    let b = clauses-long (mode_names ms) consts false [] cs c in
    let d = ask-long (mode_names ms) consts g r in
    let e = length-append (joined relation_bytes (modes_of ms)) (joined clause_bytes (clauses_with (mode_names ms) consts false [] cs) ++ ask_with (mode_names ms) consts g) in
    let f = length-append (joined clause_bytes (clauses_with (mode_names ms) consts false [] cs)) (ask_with (mode_names ms) consts g) in
    omega arith
