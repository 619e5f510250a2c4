-- One record more among those that were tested.
use Rattle.std.specs.Prelude.{Result, Ok, Err}
use Rattle.parlog.specs.Answer.{Answer}
use mathlib.Core.Path.{◌∙◌, ◌≡◌, ap, refl, sym}
use mathlib.Core.Bool.{◌&&◌, Bool, false, not, true}
use mathlib.Core.List.{[], ◌∷◌, List}
use Prim.Native.Nat.{◌+◌, ◌≤◌, ℕ}
use lib.Dec.{eqb, ltb}
use lib.ListN.{length}
use borrow.Author.Tests.{le-ltb, ne_eqb}
use native.Mathlib.Omega.{arith}
use Rattle.judge_image.specs.Judged.{judged, progress_of, taken}
use Rattle.judge_said.specs.Said.{ask_right, ask_said, clause_said, clause_size, clauses_said}
use Rattle.judge_text.specs.Tests.{Counted}
use Rattle.lay_lines.proofs.Sizes.{clause-long, clause-record}
use Rattle.lay_lines.specs.Fields.{clause_fields, clause_in}
use Rattle.lay_lines.specs.Lines.{clause_right, with_vars}
use Rattle.lay_literal.specs.Fits.{goal_fits}
use Rattle.parlog.specs.Load.{after, block_with, kind_fault, refusal, refuse_if, too_many}
use Rattle.parlog.specs.declared.Progress.{Progress}
use Rattle.text_names.specs.Names.{Name, same_name}
use Rattle.text_program.proofs.Fields.{record-length}
use Rattle.text_program.specs.Source.{cons_got, Got, got, ModeLine, Said, SaidClause}

-- ---- the goal

no-fault : (g : Progress) → g.kind ≤ 2 → kind_fault g 3 ≡ false
unfolding kind_fault
no-fault g h = rw (le-ltb 3 g.kind (omega arith), ne_eqb g.kind 3 (λ e. omega arith)) refl

module _ (ms : List ModeLine) (g : Progress) (q : List (List Said)) (at : ℕ) (h : Counted g) (right : Bool) (is : right ≡ ask_right q) where
  pub ask-wrong : not right ≡ true → Err (refusal 4 at) ≡ after taken at (ask_said ms g q)
  unfolding ask_said judged too_many
  ask-wrong e = rw (no-fault g h.kind, ← is, e)

  module _ (fits : Bool) (told : fits ≡ goal_fits true ms q) where
    pub ask-lost : not right ≡ false → not fits ≡ true → Err (refusal 5 at) ≡ after taken at (ask_said ms g q)
    unfolding ask_said judged too_many
    ask-lost e f = rw (no-fault g h.kind, ← is, ← told, e, f)

    pub ask-taken : not right ≡ false → not fits ≡ false → Ok (g.relations, g.clauses) ≡ after taken at (ask_said ms g q)
    unfolding ask_said judged too_many progress_of
    ask-taken e f = rw (no-fault g h.kind, ← is, ← told, e, f)

-- ---- clauses

abbrev is_goes : Result Progress ℕ → ℕ
is_goes (Err k) = 0
is_goes (Ok k) = 1

abbrev pub in_goes : Progress → Result Progress ℕ → Progress
in_goes d (Err k) = d
in_goes d (Ok k) = k

pub never : {P : Type 0} (n : ℕ) (next : Progress) → ◌≡◌ {A = Result Progress ℕ} (Err n) (Ok next) → P
never n next e = absurd (let z = ap is_goes e in omega arith)

judged-goes : (g : Progress) (kind : ℕ) (sized known : Bool) (r mark : ℕ) (next : Progress) → judged g kind sized known r mark ≡ Ok next → (sized ≡ true) × (next ≡ progress_of g kind r mark)
unfolding judged
judged-goes g kind sized known r mark next = go (kind_fault g kind) (too_many g kind) sized known (eqb kind 2 && ltb 8 (block_with g r mark))
  where
    go : (a b c d f : Bool) → refuse_if a 3 (refuse_if b 6 (refuse_if (not c) 4 (refuse_if (not d) 5 (refuse_if f 6 (Ok (progress_of g kind r mark)))))) ≡ Ok next → (c ≡ true) × (next ≡ progress_of g kind r mark)
    go true b c d f e = never 3 next e
    go false true c d f e = never 6 next e
    go false false false d f e = never 4 next e
    go false false true false f e = never 5 next e
    go false false true true true e = never 6 next e
    go false false true true false e = (refl, sym (ap (in_goes next) e))

pub goes-right : (ms : List ModeLine) (g : Progress) (opens : Bool) (x : SaidClause) (next : Progress) → clause_said ms g opens x ≡ Ok next → (clause_right x ≡ true) × (next.clauses ≡ g.clauses + 1)
unfolding clause_said progress_of
goes-right ms g opens x next e = let p = judged-goes g 2 _ _ _ _ next e in (p.0, ap (λ (k : Progress). k.clauses) p.1)

pub size_small : (x : SaidClause) → clause_right x ≡ true → clause_size x ≤ 194
unfolding clause_size
size_small x e =
    let a = clause-long (with_vars [] [] x) 0 x e in
    let b = ap (λ (l : List ℕ). length l) (clause-record (clause_in (with_vars [] [] x) 0 x)) in
    let c = record-length 2 (clause_fields (clause_in (with_vars [] [] x) 0 x)) in
    omega arith

module _ (ms : List ModeLine) (then : ℕ → Progress → Answer (ℕ × ℕ)) (b : Bool) (name : Name) (k : ℕ) (g : Progress) where
  pub said-on : (x : SaidClause) (Y Z : Got (List SaidClause)) (opens : Bool) (next : Progress) (d : Bool) (other : Name) (at : ℕ) → Y ≡ cons_got x Z → opens ≡ (b && same_name name x.name) → clause_said ms g opens x ≡ Ok next →
      d ≡ x.semicolon → other ≡ x.name → at ≡ k + clause_size x → clauses_said ms then d other Z.value at next ≡ clauses_said ms then b name Y.value k g
  unfolding clauses_said
  said-on x Y Z opens next d other at e f h i j l = sym (ap (λ (y : Got (List SaidClause)). clauses_said ms then b name y.value k g) e ∙ rw (← f, h, i, j, l) refl)

  pub said-stop : (x : SaidClause) (Y Z : Got (List SaidClause)) (opens : Bool) (n : ℕ) → Y ≡ cons_got x Z → opens ≡ (b && same_name name x.name) → clause_said ms g opens x ≡ Err n → Err (refusal n k) ≡ clauses_said ms then b name Y.value k g
  unfolding clauses_said
  said-stop x Y Z opens n e f h = sym (ap (λ (y : Got (List SaidClause)). clauses_said ms then b name y.value k g) e ∙ rw (← f, h) refl)

  pub said-end : (r : List ℕ) (Y : Got (List SaidClause)) → Y ≡ got [] r → then k g ≡ clauses_said ms then b name Y.value k g
  unfolding clauses_said
  said-end r Y e = sym (ap (λ (y : Got (List SaidClause)). clauses_said ms then b name y.value k g) e)

-- before the first clause no name matters
said-none : (ms : List ModeLine) (then : ℕ → Progress → Answer (ℕ × ℕ)) (x y : Name) (cs : List SaidClause) (k : ℕ) (g : Progress) → clauses_said ms then false x cs k g ≡ clauses_said ms then false y cs k g
unfolding clauses_said
said-none ms then x y [] k g = refl
said-none ms then x y (c ∷ cs) k g = refl

pub said-first : (ms : List ModeLine) (then : ℕ → Progress → Answer (ℕ × ℕ)) (x y : Name) (Y W : Got (List SaidClause)) (k : ℕ) (g : Progress) → Y ≡ W → clauses_said ms then false x Y.value k g ≡ clauses_said ms then false y W.value k g
said-first ms then x y Y W k g e = ap (λ (v : Got (List SaidClause)). clauses_said ms then false x v.value k g) e ∙ said-none ms then x y W.value k g
