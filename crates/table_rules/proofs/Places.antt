-- The places that a row names: the tests in the code's order are the definitions'.
use mathlib.Core.Path.{◌∙◌, ◌≡◌, ap, refl, sym}
use mathlib.Core.Bool.{◌&&◌, ◌||◌, Bool, cond, false, not, true, and-true, and-false, and_assoc}
use mathlib.Core.List.{List}
use Prim.Native.Nat.{◌+◌, ◌<◌, ◌≤◌, suc, zero, ℕ}
use lib.Dec.{eqb, leb, ltb}
use lib.ListN.{length}
use borrow.Author.Tests.{eq-eqb, le-leb, le-ltb, lt-ltb, ltb-true, ne_eqb}
use native.Mathlib.Omega.{arith}
use Rattle.parlog.proofs.Bools.{split}
use Rattle.parlog.specs.Codes.{kind_of, tag_of}
use Rattle.parlog.specs.Program.{block_count, clause_at, goal_at, goal_by, literal_at, Program, program_of, split_at, split_by, stage_at, vars_of}
use Rattle.parlog.specs.Scan.{implies}
use Rattle.parlog.specs.TableRules.{block_in, call_in, clause_in, equality_in, found_in, goal_in, goal_in_by, going_ok, is_equality, literal_in, places_ok, succeeds, try_in}
use Rattle.parlog.specs.declared.Process.{Process}
use Rattle.parlog.specs.declared.Spot.{Spot}
use Rattle.place.proofs.Clauses.{clause-count}
use Rattle.table_rules.specs.Parts.{behind_call, behind_goal, behind_literal}

-- ---- clauses

module _ (s : List ℕ) (r c n k v : ℕ) where
  pub clause-none : c ≤ k → false ≡ clause_in (program_of s r c) n k v
  unfolding clause_in
  clause-none h = rw (clause-count s r c, le-ltb k c h)

  pub clause-some : k < c → {m : ℕ} → m ≡ vars_of (program_of s r c) k → leb (v + m) n ≡ clause_in (program_of s r c) n k v
  unfolding clause_in
  clause-some h e = rw (clause-count s r c, lt-ltb k c h, e)

-- ---- goals

module _ (pr : Program) (n : ℕ) (z : Spot) where
  pub goal-own : z.kind ≡ 0 → {m : ℕ} → m ≡ pr.goal_vars → {b : Bool} → b ≡ (eqb z.base 0 && leb m n) → b ≡ goal_in pr n z
  unfolding goal_in goal_in_by kind_of
  goal-own k e q = rw (k, q, e)

  by_kind : (k : ℕ) → (k ≡ 0 → ⊥) → clause_in pr n z.clause z.base ≡ goal_in_by (kind_of k) pr n z
  unfolding goal_in_by kind_of
  by_kind zero h = absurd (h refl)
  by_kind (suc zero) h = refl
  by_kind (suc (suc zero)) h = refl
  by_kind (suc (suc (suc k))) h = refl

  pub goal-clause : (z.kind ≡ 0 → ⊥) → {b : Bool} → b ≡ clause_in pr n z.clause z.base → b ≡ goal_in pr n z
  unfolding goal_in
  goal-clause h e = e ∙ by_kind z.kind h

-- ---- the parts behind

module _ (pr : Program) (n : ℕ) (z : Spot) (rel : ℕ) (waits : Bool) (t : ℕ) where
  pub call-block : {u a : Bool} → u ≡ (eqb t 3 && waits) → a ≡ (eqb t 4 || u) → a ≡ true → {m : ℕ} → m ≡ block_count pr rel → ltb z.block m ≡ behind_call t waits pr n z rel
  unfolding behind_call
  call-block eu ea q e = rw (← eu, sym ea ∙ q, e)

  module _ {u a : Bool} (eu : u ≡ (eqb t 3 && waits)) (ea : a ≡ (eqb t 4 || u)) (f : a ≡ false) where
    pub call_none : t < 4 → true ≡ behind_call t waits pr n z rel
    unfolding behind_call
    call_none h = rw (← eu, sym ea ∙ f, lt-ltb t 4 h)

    pub call-try : 4 ≤ t → {d b : Bool} {m : ℕ} → d ≡ found_in pr n z → m ≡ (clause_at pr z.found).rel → b ≡ (d && eqb m rel) → b ≡ behind_call t waits pr n z rel
    unfolding behind_call
    call-try h ed em e = rw (← eu, sym ea ∙ f, le-ltb t 4 h, e, ed, em)

  pub literal-equality : 7 < t → eqb rel 255 ≡ behind_literal t waits pr n z rel
  unfolding behind_literal
  literal-equality h = rw (lt-ltb 7 t h)

  pub literal-none : t ≤ 7 → rel ≡ 255 → false ≡ behind_literal t waits pr n z rel
  unfolding behind_literal
  literal-none h e = rw (le-ltb 7 t h, eq-eqb rel 255 e)

  pub literal-call : t ≤ 7 → (rel ≡ 255 → ⊥) → {b : Bool} → b ≡ behind_call t waits pr n z rel → b ≡ behind_literal t waits pr n z rel
  unfolding behind_literal
  literal-call h o e = rw (le-ltb 7 t h, ne_eqb rel 255 o, e)

module _ (pr : Program) (n : ℕ) (z : Spot) (waits : Bool) (t : ℕ) where
  pub goal-stage : t < 2 → {m : ℕ} {a d u v b : Bool} → m ≡ length (goal_by (kind_of z.kind) pr z.clause) → a ≡ (eqb t 0 || waits) → d ≡ cond a (ltb z.stage m) (leb z.stage m)
      → u ≡ split_by (kind_of z.kind) pr z.clause → v ≡ (eqb t 0 || not u) → b ≡ (d && v) → b ≡ behind_goal t waits pr n z
  unfolding behind_goal goal_at split_at
  goal-stage h em ea ed eu ev e = rw (lt-ltb t 2 h, e, ed, ev, eu, ea, em)

  module _ (h : 2 ≤ t) {m : ℕ} (em : m ≡ length (stage_at pr z)) where
    pub goal-none : m ≤ z.literal → false ≡ behind_goal t waits pr n z
    unfolding behind_goal
    goal-none l = rw (le-ltb t 2 h, ← em, le-ltb z.literal m l)

    pub goal-literal : z.literal < m → {rel : ℕ} → rel ≡ (literal_at pr z).rel → {b : Bool} → b ≡ behind_literal t waits pr n z rel → b ≡ behind_goal t waits pr n z
    unfolding behind_goal
    goal-literal lt el e = rw (le-ltb t 2 h, ← em, lt-ltb z.literal m lt) (e ∙ ap (behind_literal t waits pr n z) el)

pub told-one : {told : Bool} → told ≡ true → {a b : Bool} → b ≡ a → b ≡ implies told a
told-one h e = rw h e

pub told_none : {told : Bool} → told ≡ false → (a : Bool) → true ≡ implies told a
told_none h a = rw h

-- ---- all that a row's tag and mode read

-- what is below is at most
below-most : (a b : ℕ) → ltb a b ≡ (leb a b && ltb a b)
below-most a b = split (ltb a b) (λ e. rw (e, le-leb a b (let h : a < b = ltb-true a b e in omega arith))) (λ e. rw (e, and-false))

stage-order : (g w u : Bool) (a b : ℕ) → ((g && true) && (cond w (ltb a b) (leb a b) && u)) ≡ ((g && (leb a b && u)) && implies w (ltb a b))
stage-order false w u a b = refl
stage-order true true true a b = rw (and-true (ltb a b), and-true (leb a b)) (below-most a b)
stage-order true true false a b = rw (and-false (ltb a b), and-false (leb a b))
stage-order true false u a b = sym (and-true (leb a b && u))

block-order : (g f l e b : Bool) → ((g && f) && (l && (e && b))) ≡ (((g && l) && e) && (b && f))
block-order false f l e b = refl
block-order true f false e b = and-false f
block-order true f true false b = and-false f
block-order true f true true false = and-false f
block-order true f true true true = and-true f

search-order : (g f l e b : Bool) → ((g && f) && (l && (e && b))) ≡ ((((g && l) && e) && b) && f)
search-order g f l e b = block-order g f l e b ∙ sym (and_assoc ((g && l) && e) b f)

wait-order : (g f l e w b : Bool) → ((g && f) && (l && (e && cond w b true))) ≡ (((g && l) && e) && (implies w b && f))
wait-order g f l e true b = block-order g f l e b
wait-order g f l e false b = block-order g f l e true

module _ (pr : Program) (n : ℕ) (x : Process) where
  abbrev z : Spot
  z = x.spot

  placed-code : (t : ℕ) → (t ≡ 7 → ⊥)
      → ((goal_in pr n z && implies ((eqb t 3 || eqb t 4) && (eqb x.mode 4 && eqb x.result 1)) (found_in pr n z)) && behind_goal t (eqb x.mode 3) pr n z)
      ≡ (places_ok (tag_of t) pr n z && going_ok (tag_of t) pr n x)
  unfolding behind_goal behind_literal behind_call places_ok going_ok tag_of call_in equality_in literal_in try_in
  placed-code zero h = simp and-true
  placed-code (suc zero) h = stage-order (goal_in pr n z) (eqb x.mode 3) (not (split_at pr z)) z.stage (length (goal_at pr z))
  placed-code (suc (suc zero)) h = simp (and-true, and_assoc)
  placed-code (suc (suc (suc zero))) h =
      wait-order (goal_in pr n z) (implies (succeeds x) (found_in pr n z)) (ltb z.literal (length (stage_at pr z))) (not (is_equality (literal_at pr z))) (eqb x.mode 3) (block_in pr z)
  placed-code (suc (suc (suc (suc zero)))) h =
      search-order (goal_in pr n z) (implies (succeeds x) (found_in pr n z)) (ltb z.literal (length (stage_at pr z))) (not (is_equality (literal_at pr z))) (block_in pr z)
  placed-code (suc (suc (suc (suc (suc zero))))) h = simp (and-true, and_assoc)
  placed-code (suc (suc (suc (suc (suc (suc zero)))))) h = simp (and-true, and_assoc)
  placed-code (suc (suc (suc (suc (suc (suc (suc zero))))))) h = absurd (h refl)
  placed-code (suc (suc (suc (suc (suc (suc (suc (suc t)))))))) h =
      rw (ne_eqb (suc (suc (suc (suc (suc (suc (suc (suc t)))))))) 3 (λ e. omega arith), ne_eqb (suc (suc (suc (suc (suc (suc (suc (suc t)))))))) 4 (λ e. omega arith), le-ltb (suc (suc (suc (suc (suc (suc (suc (suc t)))))))) 2 (omega arith), lt-ltb 7 (suc (suc (suc (suc (suc (suc (suc (suc t)))))))) (omega arith))
      (simp (and-true, and_assoc))

  pub placed-guard : x.tag ≡ 7 → {b : Bool} → b ≡ found_in pr n z → b ≡ (places_ok (tag_of x.tag) pr n z && going_ok (tag_of x.tag) pr n x)
  unfolding places_ok going_ok tag_of
  placed-guard h e = rw (h, e, and-true)

  module _ (h : x.tag ≡ 7 → ⊥) {u w q g f a : Bool} (eu : u ≡ (eqb x.tag 3 || eqb x.tag 4)) (ew : w ≡ (eqb x.mode 4 && eqb x.result 1)) (eq : q ≡ (u && w))
      (eg : g ≡ goal_in pr n z) (ef : f ≡ implies q (found_in pr n z)) (ea : a ≡ (g && f)) where
    front : a ≡ (goal_in pr n z && implies ((eqb x.tag 3 || eqb x.tag 4) && (eqb x.mode 4 && eqb x.result 1)) (found_in pr n z))
    front = rw (ea, eg, ef, eq, eu, ew)

    pub placed-none : a ≡ false → false ≡ (places_ok (tag_of x.tag) pr n z && going_ok (tag_of x.tag) pr n x)
    placed-none o = rw (← placed-code x.tag h, sym front ∙ o)

    pub placed-rest : a ≡ true → {b : Bool} → b ≡ behind_goal x.tag (eqb x.mode 3) pr n z → b ≡ (places_ok (tag_of x.tag) pr n z && going_ok (tag_of x.tag) pr n x)
    placed-rest o e = rw (← placed-code x.tag h, sym front ∙ o) e
