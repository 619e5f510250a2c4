-- Tables 3f, 3g, 3j: the tests of what a process names decide that it is there and of the sort that its rules need.
use mathlib.Core.Path.{◌∙◌, ◌≡◌, refl, subst, sym}
use mathlib.Core.Bool.{◌&&◌, not, true}
use Prim.Native.Nat.{◌+◌, ◌<◌, suc, zero, ℕ}
use lib.Dec.{eqb, leb, ltb}
use lib.ListN.{length}
use borrow.Author.Tests.{eq-eqb, eqb-false, eqb-true, le-leb, leb-true, lt-ltb, ltb-true, ne_eqb, not-true}
use native.Mathlib.Omega.{arith}
use Rattle.std.proofs.lemmas.Bool.{and_parts, and_from}
use Rattle.parlog.proofs.Openers.{block-counted, has_block}
use Rattle.parlog.proofs.Placed.{at_split, at-split-test, stage_is, stage-only, works-is, works-only}
use Rattle.parlog.proofs.Trying.{vars_are, vars-only}
use Rattle.parlog.specs.Codes.{and_par, and_seq, equate, guard_eval, input_match, kind_of, or_par, or_search, seq_search, Tag, try_clause}
use Rattle.parlog.specs.Image.{equality}
use Rattle.parlog.specs.Notions.{AtSplit}
use Rattle.parlog.specs.Program.{block_count, clause_at, goal_at, literal_at, Program, split_at, stage_at, vars_of}
use Rattle.parlog.specs.TableRules.{block_in, call_in, clause_in, equality_in, found_in, goal_in, goal_in_by, is_equality, literal_in, places_ok, stage_in, try_in}
use Rattle.parlog.specs.declared.Spot.{Spot}
use Rattle.refusals.proofs.Tests.{and-too, at_most, Decides, less, not-that}
use Rattle.refusals.specs.Ruled.{BlockUsed, CallUsed, ClauseUsed, GoalUsed, LiteralUsed, of_body, of_guard, of_image, of_written, Places, StageNamed, TrialUsed}

module _ (pr : Program) (n : ℕ) where
  pub clause-used : (k v : ℕ) → Decides (clause_in pr n k v) (ClauseUsed pr n k v)
  unfolding clause_in
  clause-used k v =
      let d = and-too (ltb k (length pr.clauses)) (leb (v + vars_of pr k) n) (less k (length pr.clauses)) (at_most (v + vars_of pr k) n) in (
        λ e. let f = d.0 e in record { there = f.0; vars = vars_of pr k; has = vars_are pr k; used = f.1 },
        λ c. d.1 (c.there, let e = vars-only pr k c.has in let u = c.used in omega arith),
      )

  module _ (z : Spot) where
    goal-used-to : (q : ℕ) → z.kind ≡ q → q < 4 → goal_in pr n z ≡ true → GoalUsed pr n z
    unfolding goal_in goal_in_by kind_of
    goal-used-to zero e h f =
        let a = and_parts (eqb z.base 0) (leb pr.goal_vars n) (rw e at f) in
        of_image e (eqb-true z.base 0 a.0) (leb-true pr.goal_vars n a.1)
    goal-used-to (suc zero) e h f = of_guard e ((clause-used z.clause z.base).0 (rw e at f))
    goal-used-to (suc (suc zero)) e h f = of_body e ((clause-used z.clause z.base).0 (rw e at f))
    goal-used-to (suc (suc (suc zero))) e h f = of_written e ((clause-used z.clause z.base).0 (rw e at f))
    goal-used-to (suc (suc (suc (suc q)))) e h f = absurd (omega arith)

    goal-used-from : GoalUsed pr n z → goal_in pr n z ≡ true
    unfolding goal_in goal_in_by kind_of
    goal-used-from (of_image e b v) = rw e (and_from (eqb z.base 0) (leb pr.goal_vars n) (eq-eqb z.base 0 b) (le-leb pr.goal_vars n v))
    goal-used-from (of_guard e c) = rw e ((clause-used z.clause z.base).1 c)
    goal-used-from (of_body e c) = rw e ((clause-used z.clause z.base).1 c)
    goal-used-from (of_written e c) = rw e ((clause-used z.clause z.base).1 c)

    literal-relation : {r : ℕ} → LiteralUsed pr n z r → (literal_at pr z).rel ≡ r
    unfolding literal_at
    literal-relation l = rw (stage-only pr z l.in_stage) l.relation

    literal-from : {r : ℕ} → LiteralUsed pr n z r → literal_in pr n z ≡ true
    unfolding literal_in
    literal-from l =
        and_from (goal_in pr n z) (ltb z.literal (length (stage_at pr z))) (goal-used-from l.goal)
        (rw (stage-only pr z l.in_stage) (lt-ltb z.literal (length l.stage) l.there))

    module _ (known : z.kind < 4) where
      goal-used : Decides (goal_in pr n z) (GoalUsed pr n z)
      goal-used = (goal-used-to z.kind refl known, goal-used-from)

      pub stage-named : Decides (stage_in pr z) (StageNamed pr z 0)
      stage-named = (
        λ e. record { goal = goal_at pr z; works = works-is pr z known; there = omega (arith, ltb-true z.stage (length (goal_at pr z)) e) },
        λ c. let h = c.there in rw (works-only pr z c.works) (lt-ltb z.stage (length c.goal) (omega arith)),
      )

      stage-or-past : Decides (leb z.stage (length (goal_at pr z))) (StageNamed pr z 1)
      stage-or-past = (
        λ e. record { goal = goal_at pr z; works = works-is pr z known; there = omega (arith, leb-true z.stage (length (goal_at pr z)) e) },
        λ c. let h = c.there in rw (works-only pr z c.works) (le-leb z.stage (length c.goal) (omega arith)),
      )

      unsplit : Decides (not (split_at pr z)) (AtSplit pr z → ⊥)
      unsplit = not-that (split_at pr z) (at_split pr z known, at-split-test pr z)

      literal-to : literal_in pr n z ≡ true → LiteralUsed pr n z (literal_at pr z).rel
      unfolding literal_in literal_at
      literal-to e =
          let a = and_parts (goal_in pr n z) (ltb z.literal (length (stage_at pr z))) e in
          record { goal = goal-used.0 a.0; stage = stage_at pr z; in_stage = stage_is pr z known; there = ltb-true z.literal (length (stage_at pr z)) a.1; relation = refl }

      call-used : Decides (call_in pr n z) (CallUsed pr n z)
      unfolding call_in
      call-used = (
        λ e. let a = and_parts (literal_in pr n z) (not (is_equality (literal_at pr z))) e in
            record { relation = (literal_at pr z).rel; literal = literal-to a.0; call = eqb-false (literal_at pr z).rel equality (not-true (is_equality (literal_at pr z)) a.1) },
        λ c. and_from (literal_in pr n z) (not (is_equality (literal_at pr z))) (literal-from c.literal) (rw (literal-relation c.literal, ne_eqb c.relation 255 c.call)),
      )

      equality-used : Decides (equality_in pr n z) (LiteralUsed pr n z 255)
      unfolding equality_in
      equality-used = (
        λ e. let a = and_parts (literal_in pr n z) (is_equality (literal_at pr z)) e in
            subst (λ r. LiteralUsed pr n z r) (eqb-true (literal_at pr z).rel equality a.1) (literal-to a.0),
        λ l. and_from (literal_in pr n z) (is_equality (literal_at pr z)) (literal-from l) (eq-eqb (literal_at pr z).rel 255 (literal-relation l)),
      )

      -- the block of the relation called
      pub block-used : Decides (call_in pr n z && block_in pr z) (BlockUsed pr n z)
      block-used = (
        λ e. let a = and_parts (call_in pr n z) (block_in pr z) e in
            let c = call-used.0 a.0 in
            let l = ltb-true z.block (block_count pr (literal_at pr z).rel) a.1 in
            record { relation = c.relation; literal = c.literal; call = c.call; block = has_block pr c.relation z.block (rw (← literal-relation c.literal) l) },
        λ b. and_from (call_in pr n z) (block_in pr z) (call-used.1 (record { relation = b.relation; literal = b.literal; call = b.call }))
            (rw (literal-relation b.literal) (lt-ltb z.block (block_count pr b.relation) (block-counted pr b.relation z.block b.block))),
      )

      trial-used : Decides (call_in pr n z && try_in pr n z) (TrialUsed pr n z)
      unfolding try_in
      trial-used = (
        λ e. let a = and_parts (call_in pr n z) (try_in pr n z) e in
            let b = and_parts (found_in pr n z) (eqb (clause_at pr z.found).rel (literal_at pr z).rel) a.1 in
            let c = call-used.0 a.0 in
            record {
              relation = c.relation;
              literal = c.literal;
              call = c.call;
              clause = (clause-used z.found z.first).0 b.0;
              same = eqb-true (clause_at pr z.found).rel (literal_at pr z).rel b.1 ∙ literal-relation c.literal;
            },
        λ u. and_from (call_in pr n z) (try_in pr n z) (call-used.1 (record { relation = u.relation; literal = u.literal; call = u.call }))
            (and_from (found_in pr n z) (eqb (clause_at pr z.found).rel (literal_at pr z).rel) ((clause-used z.found z.first).1 u.clause)
            (eq-eqb (clause_at pr z.found).rel (literal_at pr z).rel (u.same ∙ sym (literal-relation u.literal)))),
      )

      -- THE LAW: what the rules of a tag read is there exactly where the test passes
      pub places-right : (t : Tag) → Decides (places_ok t pr n z) (Places t pr n z)
      unfolding places_ok
      places-right and_par = and-too (goal_in pr n z) (stage_in pr z) goal-used stage-named
      places-right and_seq =
          and-too (goal_in pr n z) (leb z.stage (length (goal_at pr z)) && not (split_at pr z)) goal-used
          (and-too (leb z.stage (length (goal_at pr z))) (not (split_at pr z)) stage-or-past unsplit)
      places-right or_par = call-used
      places-right seq_search = call-used
      places-right or_search = block-used
      places-right try_clause = trial-used
      places-right input_match = trial-used
      places-right guard_eval = clause-used z.found z.first
      places-right equate = equality-used
