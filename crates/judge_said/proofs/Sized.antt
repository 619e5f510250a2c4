-- 4, and the lengths of records, do not depend on how names are numbered.
use mathlib.Core.Path.{◌≡◌, ap, refl}
use mathlib.Core.Bool.{Bool, false, true}
use mathlib.Core.List.{[], ◌++◌, ◌∷◌, List, map}
use Prim.Native.Nat.{suc, ℕ}
use lib.Dec.{leb}
use lib.ListN.{length, length-append, length-map}
use native.Mathlib.Omega.{arith}
use Rattle.judge_image.specs.Judged.{ask_sized, clause_sized, goal_sized, literal_sized, literals_of, stage_sized}
use Rattle.judge_said.specs.Said.{ask_right, clause_size}
use Rattle.lay_lines.proofs.Sizes.{args-length}
use Rattle.lay_lines.specs.Fields.{clause_in}
use Rattle.lay_lines.specs.Lines.{clause_right, with_vars}
use Rattle.read_goal.specs.Spans.{goal_right, literal_right, literals_in, stage_right, stages_right}
use Rattle.text_names.specs.Names.{Name}
use Rattle.text_program.proofs.Fields.{terms-length}
use Rattle.text_program.specs.Encoded.{clause_bytes, goal_bytes, literal_bytes, record_bytes, stage_bytes, term_bytes}
use Rattle.text_program.specs.Numbered.{goal_numbered, goal_terms, joined, literal_numbered, mark_by, Numbering, term_numbered, variable_names}
use Rattle.text_program.specs.Parsing.{all_of}
use Rattle.text_program.specs.Source.{Said, SaidClause}

all_map : {A B : Type 0} (f : A → B) (ok : B → Bool) (is : A → Bool) → ((x : A) → ok (f x) ≡ is x) → (xs : List A) → all_of ok (map f xs) ≡ all_of is xs
unfolding all_of
all_map f ok is h [] = refl
all_map f ok is h (x ∷ xs) = rw (h x, all_map f ok is h xs)

module _ (n : Numbering) where
  literal-sized : (l : Said) → literal_sized (literal_numbered n l) ≡ literal_right l
  unfolding literal_right
  literal-sized l = ap (λ (k : ℕ). leb k 4) (args-length n l)

  stage-sized : (st : List Said) → stage_sized (map (literal_numbered n) st) ≡ stage_right st
  unfolding stage_sized stage_right
  stage-sized st = rw (length-map st (literal_numbered n), all_map (literal_numbered n) literal_sized literal_right literal-sized st)

  literals-same : (g : List (List Said)) → literals_of (goal_numbered n g) ≡ literals_in g
  unfolding literals_of literals_in
  literals-same [] = refl
  literals-same (st ∷ g) = rw (length-map st (literal_numbered n), literals-same g)

  goal-sized : (g : List (List Said)) → goal_sized (goal_numbered n g) ≡ goal_right g
  unfolding goal_sized goal_right stages_right
  goal-sized g = rw (length-map g (map (literal_numbered n)), all_map (map (literal_numbered n)) stage_sized stage_right stage-sized g, literals-same g)

mark-small : (b : Bool) → leb (mark_by b) 1 ≡ true
mark-small true = refl
mark-small false = refl

pub clause-sized : (rels consts : List Name) (opens : Bool) (c : SaidClause) → clause_sized (clause_in (with_vars rels consts c) (mark_by opens) c) ≡ clause_right c
unfolding clause_sized clause_right
clause-sized rels consts opens c =
    let n = with_vars rels consts c in
    rw (length-map c.terms (term_numbered n), mark-small opens, goal-sized n c.guard, goal-sized n c.body)

pub ask-sized : (n : Numbering) (g : List (List Said)) → n.variables ≡ variable_names (goal_terms g) → ask_sized (length n.variables) (goal_numbered n g) ≡ ask_right g
unfolding ask_sized ask_right
ask-sized n g e = rw (goal-sized n g, e)

-- ---- lengths

joined_length : {A B C : Type 0} (f : A → B) (h : A → C) (bytes : B → List ℕ) (other : C → List ℕ) → ((x : A) → length (bytes (f x)) ≡ length (other (h x))) → (xs : List A) → length (joined bytes (map f xs)) ≡ length (joined other (map h xs))
unfolding joined
joined_length f h bytes other e [] = refl
joined_length f h bytes other e (x ∷ xs) =
    let a = e x in
    let b = joined_length f h bytes other e xs in
    let c = length-append (bytes (f x)) (joined bytes (map f xs)) in
    let d = length-append (other (h x)) (joined other (map h xs)) in
    omega arith

module _ (n k : Numbering) where
  literal-length : (l : Said) → length (literal_bytes (literal_numbered n l)) ≡ length (literal_bytes (literal_numbered k l))
  unfolding literal_bytes
  literal-length l =
      let a = terms-length (literal_numbered n l).args in
      let b = terms-length (literal_numbered k l).args in
      let c = args-length n l in
      let d = args-length k l in
      omega arith

  stage-length : (st : List Said) → length (stage_bytes (map (literal_numbered n) st)) ≡ length (stage_bytes (map (literal_numbered k) st))
  unfolding stage_bytes
  stage-length st = ap suc (joined_length (literal_numbered n) (literal_numbered k) literal_bytes literal_bytes literal-length st)

  goal-length : (g : List (List Said)) → length (goal_bytes (goal_numbered n g)) ≡ length (goal_bytes (goal_numbered k g))
  unfolding goal_bytes
  goal-length g = ap suc (joined_length (map (literal_numbered n)) (map (literal_numbered k)) stage_bytes stage_bytes stage-length g)

  clause-length : (mark other : ℕ) (c : SaidClause) → length (clause_bytes (clause_in n mark c)) ≡ length (clause_bytes (clause_in k other c))
  unfolding clause_bytes record_bytes
  clause-length mark other c =
      let a = terms-length (map (term_numbered n) c.terms) in
      let b = terms-length (map (term_numbered k) c.terms) in
      let d = length-map c.terms (term_numbered n) in
      let e = length-map c.terms (term_numbered k) in
      let f = goal-length c.guard in
      let g = goal-length c.body in
      let h = length-append (joined term_bytes (map (term_numbered n) c.terms)) (goal_bytes (goal_numbered n c.guard) ++ goal_bytes (goal_numbered n c.body)) in
      let i = length-append (joined term_bytes (map (term_numbered k) c.terms)) (goal_bytes (goal_numbered k c.guard) ++ goal_bytes (goal_numbered k c.body)) in
      let j = length-append (goal_bytes (goal_numbered n c.guard)) (goal_bytes (goal_numbered n c.body)) in
      let l = length-append (goal_bytes (goal_numbered k c.guard)) (goal_bytes (goal_numbered k c.body)) in
      omega arith

pub clause-size : (n : Numbering) (mark : ℕ) (c : SaidClause) → length (clause_bytes (clause_in n mark c)) ≡ clause_size c
unfolding clause_size
clause-size n mark c = clause-length n (with_vars [] [] c) mark 0 c
