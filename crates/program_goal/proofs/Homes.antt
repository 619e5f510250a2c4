-- Where the goals of a program stand, by kind and clause: one law for each way through `goal_home`.
use mathlib.Core.Path.{ap, refl, sym, ◌∙◌, ◌≡◌}
use mathlib.Core.Bool.{Bool, cond, false, not, true, ◌&&◌, ◌||◌}
use mathlib.Core.List.{[], List, ◌∷◌}
use Prim.Native.Nat.{suc, zero, ℕ, ◌+◌, ◌<◌, ◌≤◌}
use lib.Dec.{eqb, leb, ltb}
use lib.ListN.{length}
use borrow.Author.Tests.{eqb-false, eqb-true, le-ltb, leb-false, leb-true, lt-ltb, ltb-true, ne_eqb, not-false}
use native.Mathlib.Omega.{arith}
use native.Mathlib.Nat.{not-suc-le-zero}
use Rattle.parlog.proofs.Along.{list_length}
use Rattle.parlog.proofs.Bools.{and-true, or-false, split}
use Rattle.parlog.specs.Codes.{and_par, kind_of, Tag}
use Rattle.parlog.specs.Image.{body_at, byte_at, guard_at, record_at, stage_end}
use Rattle.parlog.specs.Program.{before, body_tag, Clause, clause_at, clause_of, committed_body, committed_by, goal_by, goal_of, is_split, Literal, modes_at, no_clause, out_count, outputs, Program, program_of, split_by, stage_of, tag_of_goal, vars_of}
use Rattle.parlog.specs.Scan.{list_of}
use Rattle.place.proofs.Clauses.{clause-past}
use Rattle.program_clause.proofs.Fields.{clause-some, vars-some}
use Rattle.program_goal.proofs.Outs.{no-terms, outs-whole}
use Rattle.program_goal.specs.Parts.{clause_outs, front, goal_in, splits_with, stages_of}
use Rattle.program_index.specs.Indexed.{Headed}

-- the goal by kind
module _ (pr : Program) (k kind : ℕ) where
  by-goal : kind ≡ 0 → goal_by (kind_of kind) pr k ≡ pr.goal
  unfolding goal_by kind_of
  by-goal e = rw e

  by-guard : kind ≡ 1 → goal_by (kind_of kind) pr k ≡ (clause_at pr k).guard
  unfolding goal_by kind_of
  by-guard e = rw e

  by-body : kind ≡ 2 → goal_by (kind_of kind) pr k ≡ committed_body pr (clause_at pr k)
  unfolding goal_by kind_of
  by-body e = rw e

written-by : (pr : Program) (k kind : ℕ) → goal_by (kind_of (suc (suc (suc kind)))) pr k ≡ (clause_at pr k).body
unfolding goal_by kind_of
written-by pr k kind = refl

-- ---- split clauses

more_by : (v o : ℕ) → ltb v (v + o) ≡ ltb 0 o
more_by v zero = le-ltb v (v + 0) (omega arith)
more_by v (suc o) = lt-ltb v (v + suc o) (omega arith) ∙ sym (lt-ltb 0 (suc o) (omega arith))

-- splits
pub splits-are : (s : List ℕ) (r c k : ℕ) → k < c → (stages : ℕ) {from own n : ℕ} {b : Bool} → from ≡ record_at s (r + k) → n ≡ vars_of (program_of s r c) k → own ≡ byte_at s (from + 7)
    → b ≡ (ltb own n && ltb 1 stages) → b ≡ splits_with (program_of s r c) k stages
unfolding splits_with vars_of
splits-are s r c k h stages {own = own} {n} ef en eo eb =
    let o : ℕ = out_count (modes_at (program_of s r c) (clause_at (program_of s r c) k).rel) in
    let e : n ≡ own + o = en ∙ ap (λ (v : ℕ). v + o) (sym (vars-some s r c k h ef eo)) in
    eb ∙ ap (λ (m : ℕ). ltb own m && ltb 1 stages) e ∙ ap (λ (t : Bool). t && ltb 1 stages) (more_by own o)

body-length : (s : List ℕ) (r c k : ℕ) → k < c → {from g n : ℕ} → from ≡ record_at s (r + k) → g ≡ body_at s from → n ≡ byte_at s g → n ≡ length (clause_at (program_of s r c) k).body
unfolding clause_of goal_of
body-length s r c k h {from} {g} ef eg en =
    en ∙ sym (ap (λ (z : Clause). length z.body) (clause-some s r c k h ef) ∙ list_length (stage_of s) (stage_end s) (byte_at s (body_at s from)) (body_at s from + 1) ∙ ap (byte_at s) (sym eg))

split-is : (pr : Program) (k : ℕ) {n : ℕ} → n ≡ length (clause_at pr k).body → splits_with pr k n ≡ is_split pr (clause_at pr k)
unfolding splits_with is_split
split-is pr k e = rw e

split-none : (pr : Program) → is_split pr no_clause ≡ false
unfolding is_split
split-none pr = and-off (ltb 0 (out_count (modes_at pr 255)))
  where
    and-off : (b : Bool) → (b && false) ≡ false
    and-off true = refl
    and-off false = refl

-- the ways through split_by
module _ (s : List ℕ) (r c k : ℕ) where
  other-kind : (kind : ℕ) → (kind ≡ 2 → ⊥) → false ≡ split_by (kind_of kind) (program_of s r c) k
  unfolding split_by kind_of
  other-kind zero n = refl
  other-kind (suc zero) n = refl
  other-kind (suc (suc zero)) n = absurd (n refl)
  other-kind (suc (suc (suc m))) n = refl

  body-kind : (kind : ℕ) → kind ≡ 2 → split_by (kind_of kind) (program_of s r c) k ≡ is_split (program_of s r c) (clause_at (program_of s r c) k)
  unfolding split_by kind_of
  body-kind kind e = rw e

  pub split_off : (kind : ℕ) {b : Bool} → b ≡ (not (eqb kind 2) || leb c k) → b ≡ true → false ≡ split_by (kind_of kind) (program_of s r c) k
  split_off kind eb et = split (eqb kind 2)
      (λ e. let l : leb c k ≡ true = rw e at (sym eb ∙ et) in
      sym (body-kind kind (eqb-true kind 2 e) ∙ ap (is_split (program_of s r c)) (clause-past s r c k (leb-true c k l)) ∙ split-none (program_of s r c)))
      (λ e. other-kind kind (eqb-false kind 2 e))

  pub split-left : (kind : ℕ) {b : Bool} → b ≡ (not (eqb kind 2) || leb c k) → b ≡ false → (kind ≡ 2) × (k < c)
  split-left kind eb ef =
      let o = or-false (not (eqb kind 2)) (leb c k) (sym eb ∙ ef) in
      (eqb-true kind 2 (not-false (eqb kind 2) o.0), leb-false c k o.1)

  pub split-on : (kind : ℕ) → kind ≡ 2 → k < c → {from g n : ℕ} {b : Bool} → from ≡ record_at s (r + k) → g ≡ body_at s (record_at s (r + k)) → n ≡ byte_at s g → b ≡ splits_with (program_of s r c) k n
      → b ≡ split_by (kind_of kind) (program_of s r c) k
  split-on kind e h ef eg en eb =
      eb ∙ split-is (program_of s r c) k (body-length s r c k h ef (eg ∙ ap (body_at s) (sym ef)) en) ∙ sym (body-kind kind e)

-- the equations of a split clause, which has some
module _ (s : List ℕ) (r c k : ℕ) (heads : Headed (program_of s r c)) where
  abbrev pr : Program
  pr = program_of s r c

  abbrev equations : List Literal
  equations = outputs (modes_at pr (clause_at pr k).rel) (clause_at pr k).head (clause_at pr k).vars

  alone : (es : List Literal) → 0 < length es → es ∷ [] ≡ before es []
  unfolding before
  alone [] h = absurd (not-suc-le-zero h)
  alone (e ∷ es) h = refl

  split-some : is_split pr (clause_at pr k) ≡ true → 0 < length equations
  unfolding is_split
  split-some e =
      let o = ltb-true 0 (out_count (modes_at pr (clause_at pr k).rel)) (and-true (ltb 0 (out_count (modes_at pr (clause_at pr k).rel))) (ltb 1 (length (clause_at pr k).body)) e).0 in
      omega (arith, outs-whole (modes_at pr (clause_at pr k).rel) (clause_at pr k).head (clause_at pr k).vars (heads k))

  split-body : is_split pr (clause_at pr k) ≡ true → committed_body pr (clause_at pr k) ≡ before equations []
  unfolding committed_body committed_by
  split-body e = rw e (alone equations (split-some e))

  whole-body : is_split pr (clause_at pr k) ≡ false → committed_body pr (clause_at pr k) ≡ before equations (clause_at pr k).body
  unfolding committed_body committed_by
  whole-body e = rw e

-- past the end
no_body : (pr : Program) → committed_body pr no_clause ≡ []
unfolding committed_body committed_by before
no_body pr = rw (split-none pr, no-terms)

none-by : (pr : Program) (k : ℕ) → clause_at pr k ≡ no_clause → (kind : ℕ) → (kind ≡ 0 → ⊥) → goal_by (kind_of kind) pr k ≡ []
none-by pr k e zero n0 = absurd (n0 refl)
none-by pr k e (suc zero) n0 = by-guard pr k 1 refl ∙ ap (λ (c : Clause). c.guard) e
none-by pr k e (suc (suc zero)) n0 = by-body pr k 2 refl ∙ ap (committed_body pr) e ∙ no_body pr
none-by pr k e (suc (suc (suc n))) n0 = written-by pr k n ∙ ap (λ (c : Clause). c.body) e

-- ---- where they stand

outs-of : (s : List ℕ) (r c from : ℕ) → outputs (modes_at (program_of s r c) (clause_of s from).rel) (clause_of s from).head (clause_of s from).vars ≡ clause_outs s r from
unfolding program_of clause_of clause_outs
outs-of s r c from = refl

-- a goal as the stages behind its first byte
as-stages : (s : List ℕ) (from : ℕ) {n : ℕ} → n ≡ byte_at s from → goal_of s from ≡ stages_of s n (from + 1)
unfolding goal_of stages_of
as-stages s from e = ap (λ (m : ℕ). list_of (stage_of s) (stage_end s) m (from + 1)) (sym e)

plain_in : (s : List ℕ) (r n from clause : ℕ) → stages_of s n from ≡ goal_in s r (record { stages = n; at = from; body = false; clause = clause })
unfolding goal_in front before
plain_in s r n from clause = refl

body-in : (s : List ℕ) (r n from clause : ℕ) → before (clause_outs s r clause) (stages_of s n from) ≡ goal_in s r (record { stages = n; at = from; body = true; clause = clause })
unfolding goal_in front
body-in s r n from clause = refl

alone-in : (s : List ℕ) (r from clause : ℕ) → before (clause_outs s r clause) [] ≡ goal_in s r (record { stages = 0; at = from; body = true; clause = clause })
unfolding goal_in front stages_of list_of
alone-in s r from clause = refl

none_in : (s : List ℕ) (r : ℕ) → [] ≡ goal_in s r (record { stages = 0; at = 0; body = false; clause = 0 })
unfolding goal_in front before stages_of list_of
none_in s r = refl

-- the ways through goal_home
module _ (s : List ℕ) (r c k : ℕ) {kind : ℕ} where
  pub home-goal : kind ≡ 0 → {g n : ℕ} → g ≡ record_at s (r + c) → n ≡ byte_at s (g + 5) → goal_by (kind_of kind) (program_of s r c) k ≡ goal_in s r (record { stages = n; at = g + 5 + 1; body = false; clause = 0 })
  unfolding program_of
  home-goal e {g} {n} eg en = by-goal (program_of s r c) k kind e ∙ ap (λ (z : ℕ). goal_of s (z + 5)) (sym eg) ∙ as-stages s (g + 5) en ∙ plain_in s r n (g + 5 + 1) 0

  pub home-none : (kind ≡ 0 → ⊥) → c ≤ k → goal_by (kind_of kind) (program_of s r c) k ≡ goal_in s r (record { stages = 0; at = 0; body = false; clause = 0 })
  home-none n0 h = none-by (program_of s r c) k (clause-past s r c k h) kind n0 ∙ none_in s r

module _ (s : List ℕ) (r c k : ℕ) (heads : Headed (program_of s r c)) (h : k < c) {from : ℕ} (e : from ≡ record_at s (r + k)) where
  own-outs : equations s r c k heads ≡ clause_outs s r from
  own-outs = ap (λ (z : Clause). outputs (modes_at (program_of s r c) z.rel) z.head z.vars) (clause-some s r c k h e) ∙ outs-of s r c from

  own-guard : goal_by (kind_of 1) (program_of s r c) k ≡ goal_of s (guard_at s from)
  unfolding clause_of
  own-guard = by-guard (program_of s r c) k 1 refl ∙ ap (λ (z : Clause). z.guard) (clause-some s r c k h e)

  own_body : (clause_at (program_of s r c) k).body ≡ goal_of s (body_at s from)
  unfolding clause_of
  own_body = ap (λ (z : Clause). z.body) (clause-some s r c k h e)

  -- the committed body, by whether the clause is split
  body-by : (b : Bool) → is_split (program_of s r c) (clause_at (program_of s r c) k) ≡ b → {g n : ℕ} → g ≡ body_at s from → n ≡ byte_at s g
      → committed_body (program_of s r c) (clause_at (program_of s r c) k) ≡ goal_in s r (record { stages = cond b 0 n; at = g + 1; body = true; clause = from })
  body-by true q {g} {n} eg en = split-body s r c k heads q ∙ ap (λ (es : List Literal). before es []) own-outs ∙ alone-in s r (g + 1) from
  body-by false q {g} {n} eg en =
      whole-body s r c k heads q ∙ ap (λ (es : List Literal). before es (clause_at (program_of s r c) k).body) own-outs
      ∙ ap (before (clause_outs s r from)) (own_body ∙ ap (goal_of s) (sym eg) ∙ as-stages s g en) ∙ body-in s r n (g + 1) from

  home_by : (kind : ℕ) → (kind ≡ 0 → ⊥) → {g n : ℕ} → g ≡ cond (eqb kind 1) (guard_at s from) (body_at s from) → n ≡ byte_at s g
      → goal_by (kind_of kind) (program_of s r c) k ≡ goal_in s r (record { stages = cond (eqb kind 2 && splits_with (program_of s r c) k n) 0 n; at = g + 1; body = eqb kind 2; clause = from })
  home_by zero n0 eg en = absurd (n0 refl)
  home_by (suc zero) n0 {g} {n} eg en = own-guard ∙ ap (goal_of s) (sym eg) ∙ as-stages s g en ∙ plain_in s r n (g + 1) from
  home_by (suc (suc zero)) n0 {g} {n} eg en =
      rw (split-is (program_of s r c) k (body-length s r c k h e eg en))
      (by-body (program_of s r c) k 2 refl ∙ body-by (is_split (program_of s r c) (clause_at (program_of s r c) k)) refl eg en)
  home_by (suc (suc (suc m))) n0 {g} {n} eg en =
      rw (ne_eqb (suc (suc (suc m))) 2 (λ z. omega arith))
      (written-by (program_of s r c) k m ∙ own_body ∙ ap (goal_of s) (sym (rw (ne_eqb (suc (suc (suc m))) 1 (λ z. omega arith)) at eg)) ∙ as-stages s g en ∙ plain_in s r n (g + 1) from)

  pub home-clause : {kind : ℕ} → (kind ≡ 0 → ⊥) → {g n m : ℕ} {b w : Bool} → g ≡ cond (eqb kind 1) (guard_at s from) (body_at s from) → n ≡ byte_at s g
      → w ≡ splits_with (program_of s r c) k n → b ≡ (eqb kind 2 && w) → m ≡ cond b 0 n
      → goal_by (kind_of kind) (program_of s r c) k ≡ goal_in s r (record { stages = m; at = g + 1; body = eqb kind 2; clause = from })
  home-clause {kind} n0 {n = n} eg en ew eb em = rw (em, eb, ew) (home_by kind n0 eg en)

-- the ways through tag_of_body
module _ (pr : Program) (k : ℕ) {b : Bool} (eb : b ≡ split_by (kind_of 2) pr k) where
  same-split : is_split pr (clause_at pr k) ≡ b
  unfolding split_by kind_of
  same-split = sym eb

  pub body-apart : b ≡ true → and_par ≡ body_tag (is_split pr (clause_at pr k)) (committed_body pr (clause_at pr k))
  unfolding body_tag
  body-apart e = rw (same-split, e)

  pub body-whole : b ≡ false → {t : Tag} → t ≡ tag_of_goal (goal_by (kind_of 2) pr k) → t ≡ body_tag (is_split pr (clause_at pr k)) (committed_body pr (clause_at pr k))
  unfolding body_tag goal_by kind_of
  body-whole e et = rw (same-split, e) et
