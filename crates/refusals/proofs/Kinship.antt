-- Tables 3c, 3d, 3e, 3i, 3k: results, kin, bindings and notes: the tests decide the facts.
use Rattle.parlog.specs.declared.Term.{Term}
use Rattle.std.specs.Prelude.{Option, None, Some}
use mathlib.Core.Path.{◌≡◌, refl, sym}
use mathlib.Core.Logic.{◌≢◌, ◌⊎◌, inl, inr, ⊎_elim}
use mathlib.Core.Bool.{◌&&◌, ◌||◌, not, true}
use mathlib.Core.List.{[], ◌∷◌, List}
use Prim.Native.Nat.{◌<◌, ◌≤◌, suc, ℕ}
use lib.Dec.{eqb, leb, ltb}
use lib.ListN.{get_or, length}
use borrow.Author.Tests.{le-leb, leb-true, lt-ltb, ltb-true}
use native.Mathlib.Omega.{arith}
use Rattle.std.proofs.lemmas.Bool.{and_parts, or_right, and_from}
use Rattle.parlog.proofs.Bools.{never}
use Rattle.parlog.proofs.Assume.{noted-below}
use Rattle.parlog.proofs.Coded.{code-tag, tag-code}
use Rattle.parlog.specs.Codes.{and_par, and_seq, dormant, equate, guard_eval, input_match, is_mode, is_one_of, is_result, is_tag, kind_code, mode_code, none, or_par, or_search, reporting, result_code, seq_search, suspended, Tag, tag_code, tag_of, the_goal, try_clause}
use Rattle.parlog.specs.Notions.{me}
use Rattle.parlog.specs.Program.{Program, tag_of_goal}
use Rattle.parlog.specs.TableRules.{all_below, binding_ok, goal_tags, kin_ok, makes_tag, notes_ok, result_ok, stage_tags}
use Rattle.parlog.specs.Tables.{noted, State}
use Rattle.parlog.specs.declared.Process.{Process}
use Rattle.parlog.specs.declared.Term.TheVariants.{Const, Var}
use Rattle.refusals.proofs.Tests.{and-too, at_most, Decides, either, equal, if-so, not-that}
use Rattle.refusals.specs.Ruled.{a_call_tag, an_equality_tag, for_block, for_body, for_guard, for_search, for_stage, for_whole_body, goal_sleeps, GoalProcess, GoalTag, HasParent, in_sequence, it_reports, MakesTag, more_literals, MustTell, one_literal, only_stage, per_clause, per_literal, StageTag, to_guard, to_match}

-- ---- which tags a tag makes

stage-tag : (t : Tag) → is_one_of stage_tags t ≡ true → StageTag t
stage-tag and_par e = more_literals
stage-tag and_seq e = never e
stage-tag or_par e = one_literal a_call_tag
stage-tag seq_search e = never e
stage-tag or_search e = never e
stage-tag try_clause e = never e
stage-tag input_match e = never e
stage-tag guard_eval e = never e
stage-tag equate e = one_literal an_equality_tag

tag-stage : {t : Tag} → StageTag t → is_one_of stage_tags t ≡ true
tag-stage (one_literal a_call_tag) = refl
tag-stage (one_literal an_equality_tag) = refl
tag-stage more_literals = refl

goal-tag : (t : Tag) → is_one_of goal_tags t ≡ true → GoalTag t
goal-tag and_par e = only_stage more_literals
goal-tag and_seq e = in_sequence
goal-tag or_par e = only_stage (one_literal a_call_tag)
goal-tag seq_search e = never e
goal-tag or_search e = never e
goal-tag try_clause e = never e
goal-tag input_match e = never e
goal-tag guard_eval e = never e
goal-tag equate e = only_stage (one_literal an_equality_tag)

tag-goal : {t : Tag} → GoalTag t → is_one_of goal_tags t ≡ true
tag-goal (only_stage (one_literal a_call_tag)) = refl
tag-goal (only_stage (one_literal an_equality_tag)) = refl
tag-goal (only_stage more_literals) = refl
tag-goal in_sequence = refl

-- the rows of the table that have one tag or two
call-makes : (t : Tag) → makes_tag or_par t ≡ true → MakesTag or_par t
call-makes and_par e = for_body (only_stage more_literals)
call-makes and_seq e = for_body in_sequence
call-makes or_par e = for_body (only_stage (one_literal a_call_tag))
call-makes seq_search e = for_search
call-makes or_search e = never e
call-makes try_clause e = never e
call-makes input_match e = never e
call-makes guard_eval e = never e
call-makes equate e = for_body (only_stage (one_literal an_equality_tag))

search-makes : (t : Tag) → makes_tag seq_search t ≡ true → MakesTag seq_search t
search-makes and_par e = never e
search-makes and_seq e = never e
search-makes or_par e = never e
search-makes seq_search e = never e
search-makes or_search e = for_block
search-makes try_clause e = never e
search-makes input_match e = never e
search-makes guard_eval e = never e
search-makes equate e = never e

block-makes : (t : Tag) → makes_tag or_search t ≡ true → MakesTag or_search t
block-makes and_par e = never e
block-makes and_seq e = never e
block-makes or_par e = never e
block-makes seq_search e = never e
block-makes or_search e = never e
block-makes try_clause e = per_clause
block-makes input_match e = never e
block-makes guard_eval e = never e
block-makes equate e = never e

trial-makes : (t : Tag) → makes_tag try_clause t ≡ true → MakesTag try_clause t
trial-makes and_par e = never e
trial-makes and_seq e = never e
trial-makes or_par e = never e
trial-makes seq_search e = never e
trial-makes or_search e = never e
trial-makes try_clause e = never e
trial-makes input_match e = to_match
trial-makes guard_eval e = to_guard
trial-makes equate e = never e

members-make : (t : Tag) → makes_tag and_par t ≡ true → MakesTag and_par t
members-make and_par e = never e
members-make and_seq e = for_whole_body
members-make or_par e = per_literal a_call_tag
members-make seq_search e = never e
members-make or_search e = never e
members-make try_clause e = never e
members-make input_match e = never e
members-make guard_eval e = never e
members-make equate e = per_literal an_equality_tag

makes-to : (a t : Tag) → makes_tag a t ≡ true → MakesTag a t
makes-to and_par t e = members-make t e
makes-to and_seq t e = for_stage (stage-tag t e)
makes-to or_par t e = call-makes t e
makes-to seq_search t e = search-makes t e
makes-to or_search t e = block-makes t e
makes-to try_clause t e = trial-makes t e
makes-to input_match t e = never e
makes-to guard_eval t e = for_guard (goal-tag t e)
makes-to equate t e = never e

makes-from : {a t : Tag} → MakesTag a t → makes_tag a t ≡ true
makes-from (per_literal a_call_tag) = refl
makes-from (per_literal an_equality_tag) = refl
makes-from for_whole_body = refl
makes-from (for_stage g) = tag-stage g
makes-from for_search = refl
makes-from (for_body {t} g) = or_right (is_tag seq_search (tag_code t)) (is_one_of goal_tags t) (tag-goal g)
makes-from for_block = refl
makes-from per_clause = refl
makes-from to_match = refl
makes-from to_guard = refl
makes-from (for_guard g) = tag-goal g

-- ---- kin

module _ (pr : Program) (s : State) where
  pub goal-process-right : Decides (kin_ok pr s.procs 0 (me s 0)) (GoalProcess pr (me s 0))
  unfolding kin_ok
  goal-process-right =
      let x = me s 0 in
      let g = tag_code (tag_of_goal pr.goal) in
      let d = and-too (eqb x.tag g) _ (equal x.tag g) (and-too (eqb x.parent 0) (eqb x.spot.kind (kind_code the_goal)) (equal x.parent 0) (equal x.spot.kind (kind_code the_goal))) in
      (λ e. let f = d.0 e in record { tag = f.0; parent = f.1.0; kind = f.1.1 }, λ p. d.1 (p.tag, (p.parent, p.kind)))

  pub parent-right : (known : (i : ℕ) → i < length s.procs → (me s i).tag < 9) → (i : ℕ) → suc i < length s.procs → Decides (kin_ok pr s.procs (suc i) (me s (suc i))) (HasParent s (suc i))
  unfolding kin_ok
  parent-right known i h = (to, back)
    where
      to : (ltb (me s (suc i)).parent (suc i) && makes_tag (tag_of (me s (me s (suc i)).parent).tag) (tag_of (me s (suc i)).tag)) ≡ true → HasParent s (suc i)
      to e =
          let a = and_parts (ltb (me s (suc i)).parent (suc i)) (makes_tag (tag_of (me s (me s (suc i)).parent).tag) (tag_of (me s (suc i)).tag)) e in
          let l = ltb-true (me s (suc i)).parent (suc i) a.0 in
          record {
            lower = omega arith;
            above = tag_of (me s (me s (suc i)).parent).tag;
            own = tag_of (me s (suc i)).tag;
            parent_tag = sym (tag-code (me s (me s (suc i)).parent).tag (known (me s (suc i)).parent (omega arith)));
            own_tag = sym (tag-code (me s (suc i)).tag (known (suc i) h));
            makes = makes-to (tag_of (me s (me s (suc i)).parent).tag) (tag_of (me s (suc i)).tag) a.1;
          }

      back : HasParent s (suc i) → (ltb (me s (suc i)).parent (suc i) && makes_tag (tag_of (me s (me s (suc i)).parent).tag) (tag_of (me s (suc i)).tag)) ≡ true
      back p =
          and_from (ltb (me s (suc i)).parent (suc i)) (makes_tag (tag_of (me s (me s (suc i)).parent).tag) (tag_of (me s (suc i)).tag)) (let h = p.lower in lt-ltb (me s (suc i)).parent (suc i) (omega arith))
          (rw (code-tag p.above (me s (me s (suc i)).parent).tag p.parent_tag, code-tag p.own (me s (suc i)).tag p.own_tag) (makes-from p.makes))

  -- ---- results

  pub tells-right : (i : ℕ) → Decides (result_ok i (me s i)) (MustTell s i → (me s i).result ≢ result_code none)
  unfolding result_ok
  tells-right i =
      let m = (me s i).mode in
      let d = either (is_mode reporting m) (eqb i 0 && is_mode dormant m) (equal m 4) (and-too (eqb i 0) (is_mode dormant m) (equal i 0) (equal m 0)) in
      let n = not-that (is_result none (me s i).result) (equal (me s i).result 0) in
      let f = if-so (is_mode reporting m || (eqb i 0 && is_mode dormant m)) (not (is_result none (me s i).result)) d (λ q. n) in
      (λ e t. f.0 e (told t), λ h. f.1 (λ q. h (⊎_elim (λ a. it_reports a) (λ a. goal_sleeps a.0 a.1) q)))
    where
      told : MustTell s i → ((me s i).mode ≡ 4) ⊎ ((i ≡ 0) × ((me s i).mode ≡ 0))
      told (it_reports e) = inl e
      told (goal_sleeps z e) = inr (z, e)

-- ---- notes

below-from : (n : ℕ) (ns : List ℕ) → ((j : ℕ) → j < length ns → get_or ns j 0 < n) → all_below n ns ≡ true
unfolding all_below
below-from n [] f = refl
below-from n (v ∷ ns) f = and_from (ltb v n) (all_below n ns) (lt-ltb v n (f 0 (omega arith))) (below-from n ns (λ j h. f (suc j) (omega arith)))

pub notes-right : (n : ℕ) (x : Process) → Decides (notes_ok n x) (x.mode ≡ mode_code suspended → (x.count ≤ 4) × ((j : ℕ) → j < length (noted x) → get_or (noted x) j 0 < n))
unfolding notes_ok
notes-right n x =
    if-so (is_mode suspended x.mode) (leb x.count 4 && all_below n (noted x)) (equal x.mode (mode_code suspended))
    (λ q. and-too (leb x.count 4) (all_below n (noted x)) (at_most x.count 4) (noted-below n (noted x), below-from n (noted x)))

-- ---- bindings

abbrev pub Bounded : ℕ → Option Term → Type 0
Bounded v b = ((c : ℕ) → b ≡ Some (Const c) → c ≤ 32767) × ((w : ℕ) → b ≡ Some (Var w) → w < v)

pub binding-right : (v : ℕ) (b : Option Term) → Decides (binding_ok v b) (Bounded v b)
binding-right v None = (
  λ e. (λ c q. let z : ◌≡◌ {A = ℕ} 0 1 = cc in absurd (omega arith), λ w q. let z : ◌≡◌ {A = ℕ} 0 1 = cc in absurd (omega arith)),
  λ f. refl,
)
binding-right v (Some (Const a)) = (
  λ e. (λ c q. let z : a ≡ c = cc in omega (arith, leb-true a 32767 e), λ w q. let z : ◌≡◌ {A = ℕ} 0 1 = cc in absurd (omega arith)),
  λ f. le-leb a 32767 (f.0 a refl),
)
binding-right v (Some (Var a)) = (
  λ e. (λ c q. let z : ◌≡◌ {A = ℕ} 0 1 = cc in absurd (omega arith), λ w q. let z : a ≡ w = cc in omega (arith, ltb-true a v e)),
  λ f. lt-ltb a v (f.1 a refl),
)
