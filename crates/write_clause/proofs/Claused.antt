-- The ways through the writing of a clause.
use mathlib.Core.Path.{◌∙◌, ◌≡◌, refl, sym}
use mathlib.Core.Bool.{◌&&◌, and-true as true-right, Bool, true}
use mathlib.Core.List.{[], ◌++◌, ◌∷◌, List}
use Prim.Native.Nat.{◌*◌, ◌+◌, ◌-◌, ◌<◌, suc, zero, ℕ}
use lib.ListN.{get_or, length}
use native.Mathlib.Omega.{arith}
use Rattle.lay_text.proofs.Lent.{Leaves, leaves_as, leaves_end, leaves_step, wrote-both}
use Rattle.lay_text.specs.Wrote.{Wrote}
use Rattle.lay_text.specs.declared.Writer.{Writer}
use Rattle.parlog.proofs.Along.{list_length}
use Rattle.parlog.specs.Image.{goal_end, stage_end}
use Rattle.parlog.specs.Program.{Clause, clause_of, Goal, goal_of, stage_of}
use Rattle.parlog.specs.Records.{record_end}
use Rattle.parlog.specs.Scan.{list_of}
use Rattle.text_names.specs.Entries.{entry_name, is_entry}
use Rattle.text_program.specs.Parsing.{all_of}
use Rattle.text_program.specs.Printing.{arrow_mark, bracket_text, clause_named, clauses_text, clause_text, end_mark, goal_named, goal_text, guard_mark, halves_text, next_mark, term_named, term_text}
use Rattle.write_goal.specs.Rows.{terms_at}

-- ---- guard and body

goal-size : (s : List ℕ) (at : ℕ) → length (goal_of s at) ≡ get_or s at 0
unfolding goal_of
goal-size s at = list_length (stage_of s) (stage_end s) (get_or s at 0) (at + 1)

module _ (r : ℕ) (nm : List ℕ) {w x : Writer} where
  ways-none : (g b : Goal) → length g ≡ 0 → length b ≡ 0 → Wrote w [] true x → Wrote w (halves_text r nm g b) (goal_named r nm g && goal_named r nm b) x
  unfolding halves_text all_of
  ways-none [] [] e f v = v
  ways-none [] (st ∷ b) e f v = absurd (omega arith)
  ways-none (st ∷ g) b e f v = absurd (omega arith)

  ways-body : {x1 : Writer} (g b : Goal) → length g ≡ 0 → (length b ≡ 0 → ⊥) → Wrote w arrow_mark true x → Wrote x (goal_text r nm b) (goal_named r nm b) x1 →
      Wrote w (halves_text r nm g b) (goal_named r nm g && goal_named r nm b) x1
  unfolding halves_text all_of
  ways-body [] [] e f u v = absurd (f refl)
  ways-body [] (st ∷ b) e f u v = wrote-both u v
  ways-body (st ∷ g) b e f u v = absurd (omega arith)

  ways-both : {x1 x2 x3 : Writer} (g b : Goal) → (length g ≡ 0 → ⊥) →
      Wrote w arrow_mark true x → Wrote x (goal_text r nm g) (goal_named r nm g) x1 → Wrote x1 guard_mark true x2 → Wrote x2 (goal_text r nm b) (goal_named r nm b) x3 →
      Wrote w (halves_text r nm g b) (goal_named r nm g && goal_named r nm b) x3
  unfolding halves_text
  ways-both [] b f u v a c = absurd (f refl)
  ways-both (st ∷ g) b f u v a c = wrote-both u (wrote-both v (wrote-both a c))

  module _ (s : List ℕ) (at body : ℕ) (e : body ≡ goal_end s at) where
    pub halves-none : (m n : ℕ) → m ≡ get_or s at 0 → n ≡ get_or s body 0 → m ≡ 0 → n ≡ 0 → Wrote w [] true x →
        Wrote w (halves_text r nm (goal_of s at) (goal_of s (goal_end s at))) (goal_named r nm (goal_of s at) && goal_named r nm (goal_of s (goal_end s at))) x
    halves-none m n f g h i v = rw (← e) (ways-none (goal_of s at) (goal_of s body) (goal-size s at ∙ sym f ∙ h) (goal-size s body ∙ sym g ∙ i) v)

    pub halves-body : {x1 : Writer} (m n : ℕ) → m ≡ get_or s at 0 → n ≡ get_or s body 0 → m ≡ 0 → (n ≡ 0 → ⊥) →
        Wrote w arrow_mark true x → Wrote x (goal_text r nm (goal_of s body)) (goal_named r nm (goal_of s body)) x1 →
        Wrote w (halves_text r nm (goal_of s at) (goal_of s (goal_end s at))) (goal_named r nm (goal_of s at) && goal_named r nm (goal_of s (goal_end s at))) x1
    halves-body m n f g h i u v = rw (← e) (ways-body (goal_of s at) (goal_of s body) (goal-size s at ∙ sym f ∙ h) (λ z. i (g ∙ sym (goal-size s body) ∙ z)) u v)

    pub halves-both : {x1 x2 x3 : Writer} (m : ℕ) → m ≡ get_or s at 0 → (m ≡ 0 → ⊥) →
        Wrote w arrow_mark true x → Wrote x (goal_text r nm (goal_of s at)) (goal_named r nm (goal_of s at)) x1 → Wrote x1 guard_mark true x2 →
        Wrote x2 (goal_text r nm (goal_of s body)) (goal_named r nm (goal_of s body)) x3 →
        Wrote w (halves_text r nm (goal_of s at) (goal_of s (goal_end s at))) (goal_named r nm (goal_of s at) && goal_named r nm (goal_of s (goal_end s at))) x3
    halves-both m f h u v a c = rw (← e) (ways-both (goal_of s at) (goal_of s body) (λ z. h (f ∙ sym (goal-size s at) ∙ z)) u v a c)

-- ---- a clause

pub clause-told : (r : ℕ) (nm s : List ℕ) (at m rel n : ℕ) {w x x1 x2 x3 : Writer} → rel ≡ get_or s (at + 4) 0 → n ≡ get_or s (at + 5) 0 →
    Wrote w (entry_name nm rel) (is_entry nm rel) x → Wrote x (bracket_text (term_text r nm) (terms_at s n (at + 8))) (all_of (term_named r nm) (terms_at s n (at + 8))) x1 →
    Wrote x1 (halves_text r nm (goal_of s (at + 8 + 2 * n)) (goal_of s (goal_end s (at + 8 + 2 * n)))) (goal_named r nm (goal_of s (at + 8 + 2 * n)) && goal_named r nm (goal_of s (goal_end s (at + 8 + 2 * n)))) x2 →
    Wrote x2 (end_mark m) true x3 → Wrote w (clause_text r nm (clause_of s at) m) (clause_named r nm (clause_of s at)) x3
unfolding clause_text clause_of
clause-told r nm s at m rel n e f a b c d =
    rw (← e, ← f, ← true-right (goal_named r nm (goal_of s (at + 8 + 2 * n)) && goal_named r nm (goal_of s (goal_end s (at + 8 + 2 * n)))))
    (wrote-both a (wrote-both b (wrote-both c d)))

-- ---- clauses

pub mark-none : (s : List ℕ) (at left : ℕ) → left ≡ 0 → 0 ≡ next_mark (list_of (clause_of s) (record_end s) left at)
unfolding list_of
mark-none s at left e = rw e

pub mark-some : (s : List ℕ) (at left : ℕ) → (left ≡ 0 → ⊥) → get_or s (at + 6) 0 ≡ next_mark (list_of (clause_of s) (record_end s) left at)
unfolding list_of clause_of
mark-some s at zero h = absurd (h refl)
mark-some s at (suc k) h = refl

module _ (r : ℕ) (nm s : List ℕ) where
  abbrev pub clauses_at : ℕ → ℕ → List Clause
  clauses_at n at = list_of (clause_of s) (record_end s) n at

  -- so many clauses are left, from a place on
  abbrev pub ClausesLeft : ℕ → ℕ → Writer → List ℕ → Bool → Writer → Type 0
  ClausesLeft left at w bs g x = Leaves w bs g x (clauses_text r nm (clauses_at left at)) (all_of (clause_named r nm) (clauses_at left at))

  one_more : (left at : ℕ) → 0 < left → clauses_text r nm (clauses_at left at) ≡ clause_text r nm (clause_of s at) (next_mark (clauses_at (left - 1) (record_end s at))) ++ clauses_text r nm (clauses_at (left - 1) (record_end s at))
  unfolding clauses_text list_of
  one_more zero at h = absurd (omega arith)
  one_more (suc k) at h = let e : suc k - 1 ≡ k = omega arith in rw e

  one-named : (left at : ℕ) → 0 < left → all_of (clause_named r nm) (clauses_at left at) ≡ (clause_named r nm (clause_of s at) && all_of (clause_named r nm) (clauses_at (left - 1) (record_end s at)))
  unfolding all_of list_of
  one-named zero at h = absurd (omega arith)
  one-named (suc k) at h = let e : suc k - 1 ≡ k = omega arith in rw e

  pub clauses-turn : (left at m next : ℕ) {w : Writer} {bs : List ℕ} {g : Bool} {x : Writer} {x1 : Writer} → 0 < left → next ≡ record_end s at → m ≡ next_mark (clauses_at (left - 1) next) →
      ClausesLeft left at w bs g x → Wrote x (clause_text r nm (clause_of s at) m) (clause_named r nm (clause_of s at)) x1 → ClausesLeft (left - 1) next w bs g x1
  clauses-turn left at m next h e f l v =
      leaves_step (clause_text r nm (clause_of s at) m) (clauses_text r nm (clauses_at (left - 1) next)) (clause_named r nm (clause_of s at)) (all_of (clause_named r nm) (clauses_at (left - 1) next))
      (leaves_as (one_more left at h ∙ rw (f, e)) (one-named left at h ∙ rw e) l) v

  pub clauses-stop : (left at : ℕ) {w : Writer} {bs : List ℕ} {g : Bool} {x : Writer} → left ≡ 0 → ClausesLeft left at w bs g x → Wrote w bs g x
  unfolding clauses_text list_of all_of
  clauses-stop left at e l = leaves_end (rw e at l)
