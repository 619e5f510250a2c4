-- BODY: the test of a record's fields decides that they fill it, each in its range.
use mathlib.Core.Path.{◌≡◌, ap, refl, subst, sym}
use mathlib.Core.Bool.{◌&&◌, Bool, cond, true}
use mathlib.Core.List.{List}
use Prim.Native.Nat.{◌+◌, ◌<◌, ◌≤◌, suc, zero, ℕ}
use lib.Dec.{eqb, leb}
use borrow.Author.Tests.{eq-eqb, eqb-true, le-leb, leb-true}
use native.Mathlib.Omega.{arith}
use Rattle.parlog.proofs.Along.{along-modes}
use Rattle.std.proofs.lemmas.Bool.{and_parts, and_from}
use Rattle.parlog.specs.Body.{ask_body, body_right, clause_body, goal_range, literal_count, literal_range, literals_range, mode_range, modes_range, relation_body, stage_range, stages_range}
use Rattle.parlog.specs.Image.{body_at, goal_end, guard_at, literal_end, literals_end, mode_end, stage_end, stages_end}
use Rattle.parlog.specs.Records.{byte_at, record_at, record_end}
use Rattle.parlog.specs.Scan.{along, each, total}
use Rattle.refusals.proofs.Tests.{and-too, at_most, Decides, each-is, equal, for-each}
use Rattle.refusals.specs.Right.{a_literal, a_stage, Any, AskFields, BodyFits, ClauseFields, GoalFrom, KindRight, LiteralsFrom, no-literal, no_stage, record_kind, RelationFields, StagesFrom}

-- ---- goals, with a test of each literal

module _ (s : List ℕ) (t : ℕ → Bool) where
  -- each literal of the stage at a passes
  abbrev pub stage_test : ℕ → Bool
  stage_test a = each t (literal_end s) (byte_at s a) (a + 1)

  -- each literal of the goal at a does
  abbrev pub goal_test : ℕ → Bool
  goal_test a = each stage_test (stage_end s) (byte_at s a) (a + 1)

  module _ (P : ℕ → Type 0) (so : (a : ℕ) → t a ≡ true → P a) where
    literals-to : (n a : ℕ) → literals_range s n a ≡ true → each t (literal_end s) n a ≡ true → LiteralsFrom s P n a (literals_end s n a)
    unfolding each along
    literals-to zero a e f = no-literal
    literals-to (suc n) a e f =
        let p = and_parts (literal_range s a) (literals_range s n (literal_end s a)) e in
        let q = and_parts (t a) (each t (literal_end s) n (literal_end s a)) f in
        a_literal (record { arity = leb-true (byte_at s (a + 1)) 4 p.0; ends = refl; also = so a q.0 }) (literals-to n (literal_end s a) p.1 q.1)

    stages-to : (n a : ℕ) → stages_range s n a ≡ true → each stage_test (stage_end s) n a ≡ true → StagesFrom s P n (literal_count s n a) a (stages_end s n a)
    unfolding each along total stage_range stage_end
    stages-to zero a e f = no_stage
    stages-to (suc n) a e f =
        let p = and_parts (stage_range s a) (stages_range s n (stage_end s a)) e in
        let q = and_parts (stage_test a) (each stage_test (stage_end s) n (stage_end s a)) f in
        let r = and_parts (leb 1 (byte_at s a)) (literals_range s (byte_at s a) (a + 1)) p.0 in
        a_stage (leb-true 1 (byte_at s a) r.0) (literals-to (byte_at s a) (a + 1) r.1 q.0) (stages-to n (stage_end s a) p.1 q.1)

    pub goal-to : (a : ℕ) → goal_range s a ≡ true → goal_test a ≡ true → GoalFrom s P a (goal_end s a)
    unfolding goal_range goal_end
    goal-to a e f =
        let n = byte_at s a in
        let p = and_parts (leb n 8) (stages_range s n (a + 1) && leb (literal_count s n (a + 1)) 8) e in
        let q = and_parts (stages_range s n (a + 1)) (leb (literal_count s n (a + 1)) 8) p.1 in
        record { few_stages = leb-true n 8 p.0; literals = literal_count s n (a + 1); stages = stages-to n (a + 1) q.0 f; few_literals = leb-true (literal_count s n (a + 1)) 8 q.1 }

  -- what is told of n literals from a to b, of stages, of a goal
  record LiteralsTold (n a b : ℕ) : Type 0 where
    pub range : literals_range s n a ≡ true
    pub ends : literals_end s n a ≡ b
    pub tests : each t (literal_end s) n a ≡ true

  record StagesTold (n k a b : ℕ) : Type 0 where
    pub range : stages_range s n a ≡ true
    pub ends : stages_end s n a ≡ b
    pub count : literal_count s n a ≡ k
    pub tests : each stage_test (stage_end s) n a ≡ true

  pub record GoalTold (a b : ℕ) : Type 0 where
    pub range : goal_range s a ≡ true
    pub ends : goal_end s a ≡ b
    pub tests : goal_test a ≡ true

  module _ (P : ℕ → Type 0) (back : (a : ℕ) → P a → t a ≡ true) where
    literals-from : {n a b : ℕ} → LiteralsFrom s P n a b → LiteralsTold n a b
    unfolding each along
    literals-from no-literal = record { range = refl; ends = refl; tests = refl }
    literals-from (a_literal {n} {a} {m} {b} l ls) =
        let r = subst (λ x. LiteralsTold n x b) l.ends (literals-from ls) in
        record {
          range = and_from (literal_range s a) (literals_range s n (literal_end s a)) (le-leb (byte_at s (a + 1)) 4 l.arity) r.range;
          ends = r.ends;
          tests = and_from (t a) (each t (literal_end s) n (literal_end s a)) (back a l.also) r.tests;
        }

    stages-from : {n k a b : ℕ} → StagesFrom s P n k a b → StagesTold n k a b
    unfolding each along total stage_range stage_end
    stages-from no_stage = record { range = refl; ends = refl; count = refl; tests = refl }
    stages-from (a_stage {n} {k} {a} {m} {b} one ls rest) =
        let l = literals-from ls in
        let r = subst (λ x. StagesTold n k x b) (sym l.ends) (stages-from rest) in
        record {
          range = and_from (stage_range s a) (stages_range s n (stage_end s a)) (and_from (leb 1 (byte_at s a)) (literals_range s (byte_at s a) (a + 1)) (le-leb 1 (byte_at s a) one) l.range) r.range;
          ends = r.ends;
          count = ap (λ (x : ℕ). byte_at s a + x) r.count;
          tests = and_from (stage_test a) (each stage_test (stage_end s) n (stage_end s a)) l.tests r.tests;
        }

    pub goal-from : {a b : ℕ} → GoalFrom s P a b → GoalTold a b
    unfolding goal_range goal_end
    goal-from {a} {b} g =
        let r = stages-from g.stages in
        let n = byte_at s a in
        record {
          range = and_from (leb n 8) (stages_range s n (a + 1) && leb (literal_count s n (a + 1)) 8) (le-leb n 8 g.few_stages)
              (and_from (stages_range s n (a + 1)) (leb (literal_count s n (a + 1)) 8) r.range (rw r.count (le-leb g.literals 8 g.few_literals)));
          ends = r.ends;
          tests = r.tests;
        }

  -- ---- the records

  pub record ClauseTold (a : ℕ) : Type 0 where
    pub fields : clause_body s a ≡ true
    pub guard : goal_test (guard_at s a) ≡ true
    pub body : goal_test (body_at s a) ≡ true

  pub clause-to : (P : ℕ → Type 0) → ((a : ℕ) → t a ≡ true → P a) → (a : ℕ) → clause_body s a ≡ true → goal_test (guard_at s a) ≡ true → goal_test (body_at s a) ≡ true → ClauseFields s P a
  unfolding clause_body
  clause-to P so a e f h =
      let the_end = eqb (goal_end s (body_at s a)) (record_end s a) in
      let goals = goal_range s (guard_at s a) && (goal_range s (body_at s a) && the_end) in
      let p = and_parts (leb (byte_at s (a + 5)) 4) (leb (byte_at s (a + 6)) 1 && (leb (byte_at s (a + 7)) 16 && goals)) e in
      let q = and_parts (leb (byte_at s (a + 6)) 1) (leb (byte_at s (a + 7)) 16 && goals) p.1 in
      let r = and_parts (leb (byte_at s (a + 7)) 16) goals q.1 in
      let u = and_parts (goal_range s (guard_at s a)) (goal_range s (body_at s a) && the_end) r.1 in
      let v = and_parts (goal_range s (body_at s a)) the_end u.1 in
      record {
        arity = leb-true (byte_at s (a + 5)) 4 p.0;
        mark = leb-true (byte_at s (a + 6)) 1 q.0;
        vars = leb-true (byte_at s (a + 7)) 16 r.0;
        middle = body_at s a;
        guard = goal-to P so (guard_at s a) u.0 f;
        body = subst (λ x. GoalFrom s P (body_at s a) x) (eqb-true (goal_end s (body_at s a)) (record_end s a) v.1) (goal-to P so (body_at s a) v.0 h);
      }

  pub clause-from : (P : ℕ → Type 0) → ((a : ℕ) → P a → t a ≡ true) → (a : ℕ) → ClauseFields s P a → ClauseTold a
  unfolding clause_body
  clause-from P back a c =
      let g = goal-from P back c.guard in
      let b = subst (λ x. GoalTold x (record_end s a)) (sym g.ends) (goal-from P back c.body) in
      record {
        fields = rw (le-leb (byte_at s (a + 5)) 4 c.arity, le-leb (byte_at s (a + 6)) 1 c.mark, le-leb (byte_at s (a + 7)) 16 c.vars, g.range, b.range) (eq-eqb (goal_end s (body_at s a)) (record_end s a) b.ends);
        guard = g.tests;
        body = b.tests;
      }

  pub record AskTold (a : ℕ) : Type 0 where
    pub fields : ask_body s a ≡ true
    pub goal : goal_test (a + 5) ≡ true

  pub ask-to : (P : ℕ → Type 0) → ((a : ℕ) → t a ≡ true → P a) → (a : ℕ) → ask_body s a ≡ true → goal_test (a + 5) ≡ true → AskFields s P a
  unfolding ask_body
  ask-to P so a e f =
      let p = and_parts (leb (byte_at s (a + 4)) 16) (goal_range s (a + 5) && eqb (goal_end s (a + 5)) (record_end s a)) e in
      let q = and_parts (goal_range s (a + 5)) (eqb (goal_end s (a + 5)) (record_end s a)) p.1 in
      record {
        vars = leb-true (byte_at s (a + 4)) 16 p.0;
        goal = subst (λ x. GoalFrom s P (a + 5) x) (eqb-true (goal_end s (a + 5)) (record_end s a) q.1) (goal-to P so (a + 5) q.0 f);
      }

  pub ask-from : (P : ℕ → Type 0) → ((a : ℕ) → P a → t a ≡ true) → (a : ℕ) → AskFields s P a → AskTold a
  unfolding ask_body
  ask-from P back a c =
      let g = goal-from P back c.goal in
      record { fields = rw (le-leb (byte_at s (a + 4)) 16 c.vars, g.range) (eq-eqb (goal_end s (a + 5)) (record_end s a) g.ends); goal = g.tests }

-- ---- without a test of the literals

abbrev yes : ℕ → Bool
yes a = true

module _ (s : List ℕ) where
  all_yes : (a : ℕ) → goal_test s yes a ≡ true
  all_yes a = each-is (stage_test s yes) (stage_end s) (byte_at s a) (a + 1) (λ i h. each-is yes (literal_end s) (byte_at s (stages_end s i (a + 1))) (stages_end s i (a + 1) + 1) (λ j l. refl))

  pub clause-fits : (a : ℕ) → Decides (clause_body s a) (ClauseFields s Any a)
  clause-fits a = (λ e. clause-to s yes Any (λ x q. tt) a e (all_yes (guard_at s a)) (all_yes (body_at s a)), λ c. (clause-from s yes Any (λ x q. refl) a c).fields)

  pub ask-fits : (a : ℕ) → Decides (ask_body s a) (AskFields s Any a)
  ask-fits a = (λ e. ask-to s yes Any (λ x q. tt) a e (all_yes (a + 5)), λ c. (ask-from s yes Any (λ x q. refl) a c).fields)

  modes-fit : (n a : ℕ) → Decides (modes_range s n a) ((i : ℕ) → i < n → byte_at s (a + i) ≤ 1)
  modes-fit n a = for-each (mode_range s) mode_end (λ i. byte_at s (a + i) ≤ 1) n a (λ i. rw (along-modes i a) (at_most (byte_at s (a + i)) 1))

  pub relation-fits : (a : ℕ) → Decides (relation_body s a) (RelationFields s a)
  unfolding relation_body
  relation-fits a =
      let m = modes-fit (byte_at s (a + 4)) (a + 5) in
      let d = and-too (leb (byte_at s (a + 4)) 4) _ (at_most (byte_at s (a + 4)) 4) (and-too (modes_range s (byte_at s (a + 4)) (a + 5)) _ m (equal (a + 5 + byte_at s (a + 4)) (record_end s a))) in
      (λ e. let f = d.0 e in record { arity = f.0; modes = f.1.0; ends = f.1.1 }, λ r. d.1 (r.arity, (r.modes, r.ends)))

  -- THE LAW: BODY is the test of fields that fill the record
  pub body-fits : (k : ℕ) → KindRight s k → Decides (body_right s (record_at s k) (record_kind s k)) (BodyFits s k)
  unfolding body_right
  body-fits k w = go (record_kind s k) refl w.least w.most
    where
      go : (q : ℕ) → record_kind s k ≡ q → 1 ≤ q → q ≤ 3 → Decides (cond (eqb q 1) (relation_body s (record_at s k)) (cond (eqb q 2) (clause_body s (record_at s k)) (ask_body s (record_at s k)))) (BodyFits s k)
      go zero e lo hi = absurd (omega arith)
      go (suc zero) e lo hi =
          let d = relation-fits (record_at s k) in
          (λ f. record { relation = λ x. d.0 f; clause = λ x. absurd (omega arith); goal = λ x. absurd (omega arith) }, λ b. d.1 (b.relation e))
      go (suc (suc zero)) e lo hi =
          let d = clause-fits (record_at s k) in
          (λ f. record { relation = λ x. absurd (omega arith); clause = λ x. d.0 f; goal = λ x. absurd (omega arith) }, λ b. d.1 (b.clause e))
      go (suc (suc (suc zero))) e lo hi =
          let d = ask-fits (record_at s k) in
          (λ f. record { relation = λ x. absurd (omega arith); clause = λ x. absurd (omega arith); goal = λ x. d.0 f }, λ b. d.1 (b.goal e))
      go (suc (suc (suc (suc q)))) e lo hi = absurd (omega arith)
