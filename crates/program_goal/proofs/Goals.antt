-- The goals where they stand: one law for each way through `literal_at`, `stage_size_at` and `goal_size_at`.
use mathlib.Core.Path.{◌∙◌, ◌≡◌, ap, refl, sym}
use mathlib.Core.Bool.{◌||◌, Bool, false, true}
use mathlib.Core.List.{[], ◌++◌, ◌∷◌, append-nil, List}
use Prim.Native.Nat.{◌+◌, ◌-◌, ◌<◌, ◌≤◌, suc, zero, ℕ}
use lib.Dec.{leb, ltb}
use lib.ListN.{get_or, length, length-append, get_or-append, get_or-eq_default}
use lib.Seq.{get_or-append-add}
use borrow.Author.Tests.{leb-false, leb-true, ltb-false, ltb-true}
use native.Mathlib.Omega.{arith}
use Rattle.parlog.proofs.Bools.{or-false, split}
use Rattle.parlog.specs.Codes.{kind_of}
use Rattle.parlog.specs.Image.{byte_at, literal_end, stage_end}
use Rattle.parlog.specs.Program.{before, equation, Goal, goal_at, goal_by, Literal, literal_at, literal_of, no_literal, Program, stage_at}
use Rattle.parlog.specs.Scan.{along}
use Rattle.parlog.specs.declared.Spot.{Spot}
use Rattle.parlog.specs.declared.Term.{Term}
use Rattle.program_goal.proofs.Rows.{in-here, in_size, stage-past, stages-length}
use Rattle.program_goal.specs.Parts.{clause_outs, front, goal_in, shown, stages_of}
use Rattle.program_goal.specs.declared.Home.{Home}
use Rattle.program_goal.specs.declared.Lit.{Lit}

-- neither before the literals of a stage nor past them
pub between : (j count n : ℕ) {b : Bool} → b ≡ (ltb j count || leb n j) → b ≡ false → (count ≤ j) × (j < n)
between j count n eb ef = let o = or-false (ltb j count) (leb n j) (sym eb ∙ ef) in (ltb-false j count o.0, leb-false n j o.1)

-- the equations before a goal: its first stage, the others, and their number
before-first : (es : List Literal) (g : Goal) → get_or (before es g) 0 [] ≡ es ++ get_or g 0 []
unfolding before
before-first [] g = refl
before-first (e ∷ es) [] = simp append-nil
before-first (e ∷ es) (st ∷ g) = refl

before-later : (es : List Literal) (g : Goal) (i : ℕ) → get_or (before es g) (suc i) [] ≡ get_or g (suc i) []
unfolding before
before-later [] g i = refl
before-later (e ∷ es) [] i = refl
before-later (e ∷ es) (st ∷ g) i = refl

before-own : (es : List Literal) (g : Goal) → (length g ≡ 0 → ⊥) → length (before es g) ≡ length g
unfolding before
before-own [] g ne = refl
before-own (e ∷ es) [] ne = absurd (ne refl)
before-own (e ∷ es) (st ∷ g) ne = refl

before-empty : (es : List Literal) (g : Goal) → length g ≡ 0 → length es ≡ 0 → length (before es g) ≡ 0
unfolding before
before-empty [] g e z = e
before-empty (x ∷ es) g e z = absurd (omega arith)

before-alone : (es : List Literal) (g : Goal) → length g ≡ 0 → (length es ≡ 0 → ⊥) → length (before es g) ≡ 1
unfolding before
before-alone [] g e ne = absurd (ne refl)
before-alone (x ∷ es) [] e ne = refl
before-alone (x ∷ es) (st ∷ g) e ne = absurd (omega arith)

-- a stage is the equations before it and its own literals
stage-by : (b : Bool) (i : ℕ) (s : List ℕ) (r from : ℕ) (g : Goal) → get_or (before (front b 0 s r from) g) i [] ≡ front b i s r from ++ get_or g i []
unfolding front before
stage-by false i s r from g = refl
stage-by true zero s r from g = before-first (clause_outs s r from) g
stage-by true (suc i) s r from g = before-later (clause_outs s r from) g i

second-part : (es ls : List Literal) (j : ℕ) → length es ≤ j → get_or (es ++ ls) j no_literal ≡ get_or ls (j - length es) no_literal
second-part es ls j h =
    let e : j ≡ length es + (j - length es) = omega arith in
    ap (λ (z : ℕ). get_or (es ++ ls) z no_literal) e ∙ get_or-append-add es ls (j - length es) no_literal

module _ (s : List ℕ) (r : ℕ) (h : Home) where
  module _ (i : ℕ) {count : ℕ} (ec : count ≡ length (front h.body i s r h.clause)) where
    stage-in : get_or (goal_in s r h) i [] ≡ front h.body i s r h.clause ++ get_or (stages_of s h.stages h.at) i []
    unfolding goal_in
    stage-in = stage-by h.body i s r h.clause (stages_of s h.stages h.at)

    pub lit-first : (j : ℕ) → j < count → {l : Literal} → l ≡ get_or (front h.body i s r h.clause) j no_literal → shown l ≡ shown (get_or (get_or (goal_in s r h) i []) j no_literal)
    lit-first j g e = ap shown (e ∙ sym (ap (λ (ls : List Literal). get_or ls j no_literal) stage-in ∙ get_or-append (front h.body i s r h.clause) (get_or (stages_of s h.stages h.at) i []) no_literal j (rw ec at g)))

    pub lit-second : (j : ℕ) → count ≤ j → shown (get_or (get_or (stages_of s h.stages h.at) i []) (j - count) no_literal) ≡ shown (get_or (get_or (goal_in s r h) i []) j no_literal)
    lit-second j g = rw (stage-in, ec) (ap shown (sym (second-part (front h.body i s r h.clause) (get_or (stages_of s h.stages h.at) i []) j (rw ec at g))))

    -- the relation of literal j: of an equation, past the end, and where it stands
    pub rel-first : (j : ℕ) → j < count → {t : Term} {v : ℕ} → equation t v ≡ get_or (front h.body i s r h.clause) j no_literal → 255 ≡ (get_or (get_or (goal_in s r h) i []) j no_literal).rel
    unfolding shown
    rel-first j g e = ap (λ (x : Lit). x.rel) (lit-first j g e)

    pub rel-past : (j : ℕ) → length (get_or (goal_in s r h) i []) ≤ j → 255 ≡ (get_or (get_or (goal_in s r h) i []) j no_literal).rel
    rel-past j g = sym (ap (λ (l : Literal). l.rel) (get_or-eq_default (get_or (goal_in s r h) i []) no_literal g))

    pub rel-own : (j : ℕ) → count ≤ j → i < h.stages → {st m : ℕ} → st ≡ along (stage_end s) i h.at → m ≡ byte_at s st → j - count < m
        → {l x : ℕ} → l ≡ along (literal_end s) (j - count) (st + 1) → x ≡ byte_at s l → x ≡ (get_or (get_or (goal_in s r h) i []) j no_literal).rel
    unfolding shown literal_of
    rel-own j g gi est em hm el ex = ex ∙ ap (λ (x : Lit). x.rel) (in-here s h.stages h.at i gi est em (j - count) hm el ∙ lit-second j g)

    pub size-short : h.stages ≤ i → count ≡ length (get_or (goal_in s r h) i [])
    size-short g = ec ∙ sym (ap length (stage-in ∙ ap (λ (l : List Literal). front h.body i s r h.clause ++ l) (stage-past s h.stages h.at i g)) ∙ length-append (front h.body i s r h.clause) [] ∙ omega arith)

    -- the ways through called_at
    pub called-short : (j : ℕ) {t : Term} {v : ℕ} → (j < count → equation t v ≡ get_or (front h.body i s r h.clause) j no_literal) → h.stages ≤ i → 255 ≡ (get_or (get_or (goal_in s r h) i []) j no_literal).rel
    called-short j e g = split (ltb j count) (λ b. let l = ltb-true j count b in rel-first j l (e l)) (λ b. rel-past j (let l = ltb-false j count b in omega (arith, size-short g)))

    pub called-edge : (j : ℕ) {t : Term} {v : ℕ} → (j < count → equation t v ≡ get_or (front h.body i s r h.clause) j no_literal) → {n : ℕ} → n ≡ length (get_or (goal_in s r h) i []) → {b : Bool} → b ≡ (ltb j count || leb n j) → b ≡ true → 255 ≡ (get_or (get_or (goal_in s r h) i []) j no_literal).rel
    called-edge j e {n} en eb et = split (ltb j count) (λ b. let l = ltb-true j count b in rel-first j l (e l)) (λ b. rel-past j (let l = leb-true n j (rw b at (sym eb ∙ et)) in omega arith))

    pub size-both : i < h.stages → {st m : ℕ} → st ≡ along (stage_end s) i h.at → m ≡ byte_at s st → count + m ≡ length (get_or (goal_in s r h) i [])
    size-both g est em = rw (stage-in, length-append (front h.body i s r h.clause) (get_or (stages_of s h.stages h.at) i []), ec, in_size s h.stages h.at i g est em)

  pub goal-own : (h.stages ≡ 0 → ⊥) → h.stages ≡ length (goal_in s r h)
  unfolding goal_in
  goal-own ne =
      let e = stages-length s h.stages h.at 0 in
      sym (before-own (front h.body 0 s r h.clause) (stages_of s h.stages h.at) (λ z. ne (sym e ∙ z)) ∙ e)

  module _ (z : h.stages ≡ 0) {count : ℕ} (ec : count ≡ length (front h.body 0 s r h.clause)) where
    pub goal-empty : count ≡ 0 → 0 ≡ length (goal_in s r h)
    unfolding goal_in
    goal-empty e = sym (before-empty (front h.body 0 s r h.clause) (stages_of s h.stages h.at) (stages-length s h.stages h.at 0 ∙ z) (sym ec ∙ e))

    pub goal-alone : (count ≡ 0 → ⊥) → 1 ≡ length (goal_in s r h)
    unfolding goal_in
    goal-alone ne = sym (before-alone (front h.body 0 s r h.clause) (stages_of s h.stages h.at) (stages-length s h.stages h.at 0 ∙ z) (λ e. ne (ec ∙ e)))

-- by the spot
module _ (pr : Program) (z : Spot) {g : Goal} (e : goal_by (kind_of z.kind) pr z.clause ≡ g) where
  pub spot-stage : get_or g z.stage [] ≡ stage_at pr z
  unfolding stage_at goal_at
  spot-stage = ap (λ (w : Goal). get_or w z.stage []) (sym e)

  pub spot-literal : shown (get_or (get_or g z.stage []) z.literal no_literal) ≡ shown (literal_at pr z)
  unfolding literal_at
  spot-literal = ap (λ (st : List Literal). shown (get_or st z.literal no_literal)) spot-stage

  pub spot-relation : (get_or (get_or g z.stage []) z.literal no_literal).rel ≡ (literal_at pr z).rel
  unfolding literal_at
  spot-relation = ap (λ (st : List Literal). (get_or st z.literal no_literal).rel) spot-stage
