-- THE LAW: 4, 5 and 6 of a text, told by what it says.
use Rattle.std.specs.Prelude.{Result, Err, Ok}
use Rattle.parlog.specs.Answer.{Answer}
use mathlib.Core.Path.{◌∙◌, ◌≡◌, ap, refl, sym}
use mathlib.Core.Bool.{Bool, false, true}
use mathlib.Core.List.{[], ◌++◌, ◌∷◌, append-nil, List}
use Prim.Native.Nat.{◌+◌, ◌≤◌, ℕ}
use lib.Dec.{leb}
use lib.ListN.{length, length-append, length-map}
use borrow.Author.Tests.{leb-true}
use native.Mathlib.Omega.{arith}
use Rattle.judge_image.proofs.Counts.{few-relations, more-relations}
use Rattle.judge_image.proofs.Walked.{records-judged}
use Rattle.judge_image.specs.Judged.{ask_judged, clauses_judged, goal_known, judged, progress_of, relation_judged, relation_sized, relations_judged, taken}
use Rattle.judge_said.proofs.Clauses.{clauses-said, goal-few, judged-both}
use Rattle.judge_said.proofs.First.{terms-okay-in}
use Rattle.judge_said.proofs.Known.{goal-told}
use Rattle.judge_said.proofs.Sized.{ask-sized}
use Rattle.judge_said.specs.Said.{ask_right, ask_said, clauses_said}
use Rattle.lay_lines.specs.Lines.{clauses_with, modes_of}
use Rattle.lay_literal.specs.Fits.{goal_fits}
use Rattle.parlog.proofs.Bools.{and-true}
use Rattle.parlog.specs.Load.{after, nothing_read, too_many}
use Rattle.parlog.specs.declared.Progress.{Progress}
use Rattle.read_goal.specs.Spans.{goal_right}
use Rattle.read_names.specs.Tables.{mode_names}
use Rattle.text_names.specs.Names.{adds, Name}
use Rattle.text_program.specs.Numbered.{clauses_behind, clauses_numbered, clause_terms, constant_names, goal_numbered, goal_terms, joined, lowers, Numbering, program_in, relation_names, variable_names}
use Rattle.text_program.specs.Parsing.{all_of, clause_declared, declared, goal_declared, image_in, once_by, records_in, repeated}
use Rattle.text_program.specs.Source.{ModeLine, Said, SaidClause, Source}

-- ---- the goal

-- the parts of a right goal
pub ask-parts : (g : List (List Said)) → ask_right g ≡ true → (length (variable_names (goal_terms g)) ≤ 16) × (goal_right g ≡ true)
unfolding ask_right
ask-parts g e = let p = and-true (leb (length (variable_names (goal_terms g))) 16) (goal_right g) e in (leb-true (length (variable_names (goal_terms g))) 16 p.0, p.1)

-- how the names of the goal are numbered
abbrev numbers : List ModeLine → List (List Said) → List Name → Numbering
numbers ms goal consts = record { relations = mode_names ms; constants = consts; variables = variable_names (goal_terms goal) }

module _ (ms : List ModeLine) (few : length ms ≤ 32) (goal : List (List Said)) (d : goal_declared (mode_names ms) goal ≡ true) (consts : List Name) where
  ask-said : (at : ℕ) (g : Progress) (before : List Name) → consts ≡ adds [] (lowers (before ++ goal_terms goal)) → length before ≤ 4352 →
      after taken at (ask_judged (modes_of ms) g (length (variable_names (goal_terms goal))) (goal_numbered (numbers ms goal consts) goal)) ≡ after taken at (ask_said ms g goal)
  unfolding ask_judged ask_said
  ask-said at g before c l =
      rw (ask-sized (numbers ms goal consts) goal refl)
      (judged-both taken taken at g 3 (ask_right goal) (goal_known (modes_of ms) (length (variable_names (goal_terms goal))) (goal_numbered (numbers ms goal consts) goal)) (goal_fits true ms goal) 0 0
      (λ m s. let a = goal-few goal (ask-parts goal s).1 in let b = length-append before (goal_terms goal) in
      goal-told ms (numbers ms goal consts) few refl goal d (terms-okay-in (numbers ms goal consts) before (goal_terms goal) [] (omega arith) refl (c ∙ ap (λ (l : List Name). adds [] l) (sym (append-nil (lowers (before ++ goal_terms goal)))))))
      (λ m s. refl))

-- ---- relations

once-both : (f h : Progress → Answer (ℕ × ℕ)) (at : ℕ) (b : Bool) (v : Result Progress ℕ) → after f at v ≡ after h at v → after f at (once_by b v) ≡ after h at (once_by b v)
once-both f h at b (Err n) e = refl
once-both f h at true (Ok g) e = refl
once-both f h at false (Ok g) e = e

relation-both : (names : List Name) (f h : Progress → Answer (ℕ × ℕ)) (at : ℕ) (g : Progress) (m : List ℕ) → (too_many g 1 ≡ false → f (progress_of g 1 0 0) ≡ h (progress_of g 1 0 0)) → after f at (relation_judged names g m) ≡ after h at (relation_judged names g m)
unfolding relation_judged
relation-both names f h at g m e = once-both f h at (repeated names g.relations) (judged g 1 (relation_sized m) true 0 0) (judged-both f h at g 1 (relation_sized m) true true 0 0 (λ p q. refl) (λ p q. e p))

relations-both : (names : List Name) (f h : ℕ → Progress → Answer (ℕ × ℕ)) (all : ℕ) → ((at : ℕ) (g : Progress) → g.clauses ≡ 0 → all ≤ 32 → f at g ≡ h at g) →
    (rels : List (List ℕ)) (at : ℕ) (g : Progress) → g.clauses ≡ 0 → g.relations ≤ 32 → g.relations + length rels ≡ all → relations_judged names f rels at g ≡ relations_judged names h rels at g
unfolding relations_judged
relations-both names f h all k [] at g z l e = k at g z (omega arith)
relations-both names f h all k (m ∷ rels) at g z l e =
    relation-both names (relations_judged names f rels _) (relations_judged names h rels _) at g m
    (λ p. let a = few-relations g p in let b = (more-relations g).0 in relations-both names f h all k rels _ (progress_of g 1 0 0) ((more-relations g).1 ∙ z) (omega arith) (omega arith))

-- ---- the numbers of a source

behind-with : (p : Source) (b : SaidClause) (cs : List SaidClause) → clauses_behind p b cs ≡ clauses_with (relation_names p) (constant_names p) b.semicolon b.name cs
unfolding clauses_behind clauses_with
behind-with p b [] = refl
behind-with p b (c ∷ cs) = rw (behind-with p c cs)

pub numbered-with : (p : Source) (cs : List SaidClause) → clauses_numbered p cs ≡ clauses_with (relation_names p) (constant_names p) false [] cs
unfolding clauses_numbered clauses_with
numbered-with p [] = refl
numbered-with p (c ∷ cs) = rw (behind-with p c cs)

names-all : (p : Source) → constant_names p ≡ adds [] (lowers ([] ++ (joined clause_terms p.clauses ++ goal_terms p.goal)))
unfolding constant_names
names-all p = refl

-- the tests of its goal, and that it is the last
abbrev ask_of : Source → ℕ → Progress → Answer (ℕ × ℕ)
ask_of p at g = after taken at (ask_judged (modes_of p.modes) g (length (variable_names (goal_terms p.goal))) (goal_numbered (numbers p.modes p.goal (constant_names p)) p.goal))

-- the clauses and the goal of a source
said : (p : Source) → all_of (clause_declared (relation_names p)) p.clauses ≡ true → goal_declared (relation_names p) p.goal ≡ true → length p.modes ≤ 32 → (at : ℕ) (g : Progress) → g.clauses ≡ 0 →
    clauses_judged (modes_of p.modes) (ask_of p) (clauses_with (relation_names p) (constant_names p) false [] p.clauses) at g
    ≡ clauses_said p.modes (λ at g. after taken at (ask_said p.modes g p.goal)) false [] p.clauses at g
said p d e few at g z =
    clauses-said p.modes few p.goal (ask_of p) (λ at g. after taken at (ask_said p.modes g p.goal))
    (constant_names p) p.clauses [] at g false [] (names-all p) d (omega arith) (omega arith) (λ f. absurd (let y : ◌≡◌ {A = ℕ} 0 1 = cc in omega arith))
    (λ at g before c l. ask-said p.modes few p.goal e (constant_names p) at g before c l)

-- THE LAW
pub records-said : (p : Source) → declared p ≡ true →
    records_in (relation_names p) (image_in p) ≡ relations_judged (relation_names p) (clauses_said p.modes (λ at g. after taken at (ask_said p.modes g p.goal)) false [] p.clauses) (modes_of p.modes) 0 nothing_read
unfolding image_in program_in declared
records-said p d =
    let e = and-true (all_of (clause_declared (relation_names p)) p.clauses) (goal_declared (relation_names p) p.goal) d in
    let l = length-map p.modes (λ (m : ModeLine). m.modes) in
    records-judged (relation_names p) (program_in p)
    ∙ rw (numbered-with p p.clauses)
    (relations-both (relation_names p) (clauses_judged (modes_of p.modes) (ask_of p) (clauses_with (relation_names p) (constant_names p) false [] p.clauses)) (clauses_said p.modes (λ at g. after taken at (ask_said p.modes g p.goal)) false [] p.clauses) (length p.modes)
    (λ at g z few. said p e.0 e.1 few at g z) (modes_of p.modes) 0 nothing_read refl (omega arith) (omega arith))
