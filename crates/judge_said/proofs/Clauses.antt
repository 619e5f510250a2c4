-- THE LAW: the tests of the clauses and of the goal of a program are those told by its text.
use Rattle.std.specs.Prelude.{Ok}
use Rattle.parlog.specs.Answer.{Answer}
use mathlib.Core.Path.{◌∙◌, ◌≡◌, ap, refl, sym}
use mathlib.Core.Bool.{◌&&◌, Bool, cond, false, not, true}
use mathlib.Core.List.{[], ◌++◌, ◌∷◌, append_assoc, List}
use Prim.Native.Nat.{◌*◌, ◌+◌, ◌<◌, ◌≤◌, ℕ}
use lib.Dec.{eqb, leb, ltb}
use lib.ListN.{length, length-append}
use borrow.Author.Tests.{eq-eqb, leb-true, lt-ltb}
use native.Mathlib.Omega.{arith}
use Rattle.judge_image.proofs.Counts.{few-clauses, more-clauses}
use Rattle.judge_image.specs.Judged.{clause_judged, clause_known, clause_sized, clauses_judged, judged, progress_of}
use Rattle.judge_said.proofs.First.{terms-okay-in}
use Rattle.judge_said.proofs.Known.{clause-told}
use Rattle.judge_said.proofs.Sized.{clause-size, clause-sized}
use Rattle.judge_said.specs.Said.{clause_said, clause_size, clauses_said}
use Rattle.lay_lines.proofs.Sizes.{right-parts}
use Rattle.lay_lines.specs.Fields.{clause_fits, clause_in}
use Rattle.lay_lines.specs.Lines.{clause_right, clauses_with, modes_of, with_vars}
use Rattle.parlog.proofs.Bools.{and-true}
use Rattle.parlog.specs.Load.{after, block_with, kind_fault, refuse_if, too_many}
use Rattle.parlog.specs.Names.{follows}
use Rattle.parlog.specs.declared.Progress.{Progress}
use Rattle.read_goal.specs.Spans.{goal_right, literal_right, literals_in, stage_right, stages_right}
use Rattle.read_names.specs.Tables.{mode_names}
use Rattle.text_names.proofs.Looked.{same-is}
use Rattle.text_names.specs.Names.{adds, look, Name, same_name}
use Rattle.text_program.proofs.Joined.{lowers-append}
use Rattle.text_program.specs.Encoded.{clause_bytes}
use Rattle.text_program.specs.Numbered.{clause_terms, goal_terms, joined, lowers, mark_by, Numbering, said_terms}
use Rattle.text_program.specs.Parsing.{all_of, clause_declared}
use Rattle.text_program.specs.Source.{ModeLine, Said, SaidClause}

-- ---- how many terms there are

stage-terms : (st : List Said) → all_of literal_right st ≡ true → length (joined said_terms st) ≤ 4 * length st
unfolding all_of joined literal_right
stage-terms [] e = omega arith
stage-terms (l ∷ st) e =
    let p = and-true (leb (length (said_terms l)) 4) (all_of literal_right st) e in
    let a = leb-true (length (said_terms l)) 4 p.0 in
    let b = stage-terms st p.1 in
    let c = length-append (said_terms l) (joined said_terms st) in
    omega arith

stages-terms : (g : List (List Said)) → all_of stage_right g ≡ true → length (goal_terms g) ≤ 4 * literals_in g
unfolding all_of joined stage_right literals_in
stages-terms [] e = omega arith
stages-terms (st ∷ g) e =
    let p = and-true (stage_right st) (all_of stage_right g) e in
    let q = and-true (leb 1 (length st)) (all_of literal_right st) p.0 in
    let a = stage-terms st q.1 in
    let b = stages-terms g p.1 in
    let c = length-append (joined said_terms st) (goal_terms g) in
    omega arith

pub goal-few : (g : List (List Said)) → goal_right g ≡ true → length (goal_terms g) ≤ 32
unfolding goal_right stages_right
goal-few g e =
    let p = and-true (leb (length g) 8) (all_of stage_right g && leb (literals_in g) 8) e in
    let q = and-true (all_of stage_right g) (leb (literals_in g) 8) p.1 in
    let a = stages-terms g q.0 in
    let c = leb-true (literals_in g) 8 q.1 in
    omega arith

pub clause-few : (c : SaidClause) → clause_right c ≡ true → length (clause_terms c) ≤ 68
clause-few c e =
    let p = right-parts c e in
    let h = p.head in
    let a = goal-few c.guard p.guard in
    let b = goal-few c.body p.body in
    let d = length-append c.terms (goal_terms c.guard ++ goal_terms c.body) in
    let f = length-append (goal_terms c.guard) (goal_terms c.body) in
    omega arith

-- ---- one record, where only right ones matter

pub judged-both : (f h : Progress → Answer (ℕ × ℕ)) (at : ℕ) (g : Progress) (kind : ℕ) (sized known other : Bool) (r mark : ℕ) → (too_many g kind ≡ false → sized ≡ true → known ≡ other) → (too_many g kind ≡ false → sized ≡ true → f (progress_of g kind r mark) ≡ h (progress_of g kind r mark)) →
    after f at (judged g kind sized known r mark) ≡ after h at (judged g kind sized other r mark)
unfolding judged
judged-both f h at g kind sized known other r mark k e = fault (kind_fault g kind) (too_many g kind) sized refl refl
  where
    full : (b : Bool) → f (progress_of g kind r mark) ≡ h (progress_of g kind r mark) → after f at (refuse_if b 6 (Ok (progress_of g kind r mark))) ≡ after h at (refuse_if b 6 (Ok (progress_of g kind r mark)))
    full true z = refl
    full false z = z

    names : (b : Bool) → f (progress_of g kind r mark) ≡ h (progress_of g kind r mark) →
        after f at (refuse_if (not b) 5 (refuse_if (eqb kind 2 && ltb 8 (block_with g r mark)) 6 (Ok (progress_of g kind r mark)))) ≡ after h at (refuse_if (not b) 5 (refuse_if (eqb kind 2 && ltb 8 (block_with g r mark)) 6 (Ok (progress_of g kind r mark))))
    names true z = full (eqb kind 2 && ltb 8 (block_with g r mark)) z
    names false z = refl

    fault : (a b c : Bool) → too_many g kind ≡ b → sized ≡ c →
        after f at (refuse_if a 3 (refuse_if b 6 (refuse_if (not c) 4 (refuse_if (not known) 5 (refuse_if (eqb kind 2 && ltb 8 (block_with g r mark)) 6 (Ok (progress_of g kind r mark)))))))
        ≡ after h at (refuse_if a 3 (refuse_if b 6 (refuse_if (not c) 4 (refuse_if (not other) 5 (refuse_if (eqb kind 2 && ltb 8 (block_with g r mark)) 6 (Ok (progress_of g kind r mark)))))))
    fault true b c p q = refl
    fault false true c p q = refl
    fault false false false p q = refl
    fault false false true p q = rw (k p q) (names other (e p q))

-- ---- clauses

-- the clause before is of this name, where it ended in `;`
abbrev Behind : List ModeLine → Progress → Bool → Name → Type 0
Behind ms g semicolon name = semicolon ≡ true → (0 < g.clauses) × (g.relation ≡ look (mode_names ms) name)

-- the terms so far, those of one more, and the rest
abbrev regroup : List Name → List Name → List Name → List Name → Type 0
regroup p ts j g = p ++ ((ts ++ j) ++ g) ≡ (p ++ ts) ++ (j ++ g)

grouped : (p ts j g : List Name) → regroup p ts j g
grouped p ts j g = ap (λ (l : List Name). p ++ l) (append_assoc ts j g) ∙ sym (append_assoc p ts (j ++ g))

mark-right : (ms : List ModeLine) (g : Progress) (semicolon : Bool) (name x : Name) → Behind ms g semicolon name → cond (follows g (look (mode_names ms) x)) true (eqb (mark_by (semicolon && same_name name x)) 0) ≡ true
mark-right ms g semicolon name x b = go semicolon (same_name name x) b refl
  where
    open-one : (f : Bool) → f ≡ true → cond f true false ≡ true
    open-one true e = refl
    open-one false e = e

    any-one : (f : Bool) → cond f true true ≡ true
    any-one true = refl
    any-one false = refl

    go : (s t : Bool) → (s ≡ true → (0 < g.clauses) × (g.relation ≡ look (mode_names ms) name)) → same_name name x ≡ t → cond (follows g (look (mode_names ms) x)) true (eqb (mark_by (s && t)) 0) ≡ true
    go true true h e =
        let q = h refl in
        let r : g.relation ≡ look (mode_names ms) x = q.1 ∙ ap (look (mode_names ms)) (same-is name x e) in
        open-one (follows g (look (mode_names ms) x)) (rw (lt-ltb 0 g.clauses q.0, eq-eqb g.relation (look (mode_names ms) x) r) refl)
    go true false h e = any-one (follows g (look (mode_names ms) x))
    go false t h e = any-one (follows g (look (mode_names ms) x))

module _ (ms : List ModeLine) (few : length ms ≤ 32) (goal : List (List Said)) (thenJ thenS : ℕ → Progress → Answer (ℕ × ℕ)) where
  one-said : (x : SaidClause) (n : Numbering) (opens : Bool) (at : ℕ) (g : Progress) (f : ℕ → Progress → Answer (ℕ × ℕ)) (h : Progress → Answer (ℕ × ℕ)) →
      clause_sized (clause_in n (mark_by opens) x) ≡ clause_right x →
      (too_many g 2 ≡ false → clause_right x ≡ true → clause_known (modes_of ms) g (clause_in n (mark_by opens) x) ≡ (clause_fits true ms x && leb g.relation (look (mode_names ms) x.name))) →
      (too_many g 2 ≡ false → clause_right x ≡ true → f (at + clause_size x) (progress_of g 2 (look n.relations x.name) (mark_by opens)) ≡ h (progress_of g 2 (look n.relations x.name) (mark_by opens))) →
      n.relations ≡ mode_names ms → after (f (at + length (clause_bytes (clause_in n (mark_by opens) x)))) at (clause_judged (modes_of ms) g (clause_in n (mark_by opens) x)) ≡ after h at (clause_said ms g opens x)
  unfolding clause_judged clause_said
  one-said x n opens at g f h s k e r =
      rw (clause-size n (mark_by opens) x, s, ← r)
      (judged-both (f (at + clause_size x)) h at g 2 (clause_right x) (clause_known (modes_of ms) g (clause_in n (mark_by opens) x)) (clause_fits true ms x && leb g.relation (look n.relations x.name)) (look n.relations x.name) (mark_by opens)
      (λ m z. k m z ∙ rw (← r) refl) e)

  pub clauses-said : (consts : List Name) (cs : List SaidClause) (before : List Name) (at : ℕ) (g : Progress) (semicolon : Bool) (name : Name) →
      consts ≡ adds [] (lowers (before ++ (joined clause_terms cs ++ goal_terms goal))) → all_of (clause_declared (mode_names ms)) cs ≡ true → length before ≤ 68 * g.clauses → g.clauses ≤ 64 → Behind ms g semicolon name →
      ((at : ℕ) (g : Progress) (before : List Name) → consts ≡ adds [] (lowers (before ++ goal_terms goal)) → length before ≤ 4352 → thenJ at g ≡ thenS at g) →
      clauses_judged (modes_of ms) thenJ (clauses_with (mode_names ms) consts semicolon name cs) at g ≡ clauses_said ms thenS semicolon name cs at g
  unfolding clauses_judged clauses_with clauses_said joined all_of
  clauses-said consts [] before at g semicolon name c d l m b k = k at g before c (omega arith)
  clauses-said consts (x ∷ cs) before at g semicolon name c d l full b k =
      let opens = semicolon && same_name name x.name in
      let r = look (mode_names ms) x.name in
      let n = with_vars (mode_names ms) consts x in
      let e : consts ≡ adds [] (lowers ((before ++ clause_terms x) ++ (joined clause_terms cs ++ goal_terms goal))) = c ∙ ap (λ (l : List Name). adds [] (lowers l)) (grouped before (clause_terms x) (joined clause_terms cs) (goal_terms goal)) in
      let f : consts ≡ adds [] (lowers (before ++ clause_terms x) ++ lowers (joined clause_terms cs ++ goal_terms goal)) = e ∙ ap (λ (l : List Name). adds [] l) (lowers-append (before ++ clause_terms x) (joined clause_terms cs ++ goal_terms goal)) in
      let p = and-true (clause_declared (mode_names ms) x) (all_of (clause_declared (mode_names ms)) cs) d in
      one-said x n opens at g
      (clauses_judged (modes_of ms) thenJ (clauses_with (mode_names ms) consts x.semicolon x.name cs)) (clauses_said ms thenS x.semicolon x.name cs (at + clause_size x))
      (clause-sized (mode_names ms) consts opens x)
      (λ m s. let u = few-clauses g m in let v = clause-few x s in let w = length-append before (clause_terms x) in
      clause-told ms n few refl x g (mark_by opens) p.0 (terms-okay-in n before (clause_terms x) (lowers (joined clause_terms cs ++ goal_terms goal)) (omega arith) refl f) (mark-right ms g semicolon name x.name b))
      (λ m s. let u = few-clauses g m in let v = clause-few x s in let w = length-append before (clause_terms x) in let y = (more-clauses g r (mark_by opens)).0 in
      clauses-said consts cs (before ++ clause_terms x) (at + clause_size x) (progress_of g 2 r (mark_by opens)) x.semicolon x.name e p.1 (omega arith) (omega arith) (λ z. (omega arith, (more-clauses g r (mark_by opens)).1)) k)
      refl
