-- The tags of goals, stages and literals: one law for each way through their reads.
use mathlib.Core.Path.{ap, refl, ◌∙◌, ◌≡◌}
use mathlib.Core.List.{[], List, ◌∷◌}
use Prim.Native.Nat.{ℕ}
use lib.ListN.{get_or, length}
use native.Mathlib.Omega.{arith}
use Rattle.parlog.specs.Codes.{and_par, and_seq, Tag}
use Rattle.parlog.specs.Program.{Goal, Literal, no_literal, tag_of_goal, tag_of_literal, tag_of_stage}
use Rattle.program_goal.specs.Parts.{relation_tag, shown}
use Rattle.program_goal.specs.declared.Lit.{Lit}

pub tag-literal : (l : Literal) {x : Lit} {t : Tag} → x ≡ shown l → t ≡ relation_tag x.rel → t ≡ tag_of_literal l
unfolding shown relation_tag tag_of_literal
tag-literal l e et = et ∙ ap (λ (x : Lit). relation_tag x.rel) e

pub stage-many : (st : List Literal) {n : ℕ} → n ≡ length st → (n ≡ 1 → ⊥) → and_par ≡ tag_of_stage st
unfolding tag_of_stage
stage-many [] en ne = refl
stage-many (l ∷ []) en ne = absurd (ne en)
stage-many (l ∷ k ∷ ls) en ne = refl

pub stage-one : (st : List Literal) {n : ℕ} {t : Tag} → n ≡ length st → n ≡ 1 → t ≡ tag_of_literal (get_or st 0 no_literal) → t ≡ tag_of_stage st
unfolding tag_of_stage
stage-one [] en e et = absurd (omega arith)
stage-one (l ∷ []) en e et = et
stage-one (l ∷ k ∷ ls) en e et = absurd (omega arith)

pub goal-many : (g : Goal) {n : ℕ} → n ≡ length g → (n ≡ 1 → ⊥) → and_seq ≡ tag_of_goal g
unfolding tag_of_goal
goal-many [] en ne = refl
goal-many (st ∷ []) en ne = absurd (ne en)
goal-many (st ∷ tu ∷ g) en ne = refl

pub goal-one : (g : Goal) {n : ℕ} {t : Tag} → n ≡ length g → n ≡ 1 → t ≡ tag_of_stage (get_or g 0 []) → t ≡ tag_of_goal g
unfolding tag_of_goal
goal-one [] en e et = absurd (omega arith)
goal-one (st ∷ []) en e et = et
goal-one (st ∷ tu ∷ g) en e et = absurd (omega arith)
