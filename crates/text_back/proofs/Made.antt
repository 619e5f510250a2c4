-- What an accepted image gives: programs that can be written.
use Rattle.std.specs.Prelude.{Ok}
use mathlib.Core.Path.{◌∙◌, ◌≡◌, refl}
use mathlib.Core.Logic.{◌⊎◌, inl, inr}
use mathlib.Core.Bool.{◌&&◌, Bool, cond, true}
use mathlib.Core.List.{List}
use Prim.Native.Nat.{◌+◌, ◌-◌, ◌<◌, ◌≤◌, suc, zero, ℕ}
use lib.Dec.{eqb, leb, ltb}
use lib.ListN.{length, get_or-eq_default}
use borrow.Author.Tests.{eq-eqb, eqb-false, eqb-true, leb-true, ltb-false, ltb-true, ne_eqb}
use native.Mathlib.Omega.{arith}
use Rattle.load.proofs.Accepted.{accepted, ClauseRight, Right}
use Rattle.load.proofs.Inside.{ask-fields, clause-fields}
use Rattle.parlog.proofs.Along.{along-add, list_length}
use Rattle.std.proofs.lemmas.Bool.{and_parts}
use Rattle.parlog.proofs.Bools.{split}
use Rattle.parlog.specs.Body.{clause_body, goal_range, literal_count, mode_range, modes_range, relation_body, stage_range, stages_range}
use Rattle.parlog.specs.Image.{body_at, guard_at, literal_end, mode_end, stage_end, term_at, term_end}
use Rattle.parlog.specs.Load.{load_of}
use Rattle.parlog.specs.Names.{clause_inside, goal_named, literal_named, relation_named, stage_named, terms_named}
use Rattle.parlog.specs.Orders.{Each}
use Rattle.parlog.specs.Program.{Clause, clause_of, goal_of, literal_of, modes_of, program_of, stage_of}
use Rattle.parlog.specs.Records.{byte_at, kind_at, record_at, record_end}
use Rattle.parlog.specs.Scan.{along, each, list_of}
use Rattle.refusals.proofs.Exactly.{accepted-right}
use Rattle.refusals.specs.Right.{ClauseNamed, record_kind, relation_in, RightImage}
use Rattle.text_back.proofs.Lines.{ModeOk}
use Rattle.text_back.proofs.Numbers.{ClauseMade, GoalMade, LiteralMade, Made, MarkBehind, MarksBehind, MarksMade}
use Rattle.text_back.proofs.Rows.{RowOk}
use Rattle.text_loads.proofs.Stands.{along-up}

-- ---- rows of items

pub each-listed : {A : Type 0} (P : A → Type 0) (read : ℕ → A) (next : ℕ → ℕ) (n at : ℕ) → ((i : ℕ) → i < n → P (read (along next i at))) → Each P (list_of read next n at)
unfolding list_of along
each-listed P read next zero at h = tt
each-listed P read next (suc n) at h = (h 0 (omega arith), each-listed P read next n (next at) (λ i l. h (suc i) (omega arith)))

each-tested : {A : Type 0} (P : A → Type 0) (f g : ℕ → Bool) (read : ℕ → A) (next : ℕ → ℕ) → ((i : ℕ) → f i ≡ true → g i ≡ true → P (read i)) → (n at : ℕ) → each f next n at ≡ true → each g next n at ≡ true → Each P (list_of read next n at)
unfolding list_of each
each-tested P f g read next h zero at d e = tt
each-tested P f g read next h (suc n) at d e =
    let a = and_parts (f at) (each f next n (next at)) d in
    let b = and_parts (g at) (each g next n (next at)) e in
    (h at a.0 b.0, each-tested P f g read next h n (next at) a.1 b.1)

row-tested : {A : Type 0} (P : A → Type 0) (f : ℕ → Bool) (read : ℕ → A) (next : ℕ → ℕ) → ((i : ℕ) → f i ≡ true → P (read i)) → (n at : ℕ) → 1 ≤ n → each f next n at ≡ true → RowOk P (list_of read next n at)
unfolding list_of each
row-tested P f read next h zero at l e = absurd (omega arith)
row-tested P f read next h (suc n) at l e = each-tested P f f read next (λ i a b. h i a) (suc n) at e e

module _ (s : List ℕ) where
  -- ---- relations

  modes-made : (at : ℕ) → relation_body s at ≡ true → Each ModeOk (modes_of s at)
  unfolding relation_body modes_of
  modes-made at e =
      let n = byte_at s (at + 4) in
      let a = and_parts (leb n 4) (modes_range s n (at + 5) && eqb (at + 5 + n) (record_end s at)) e in
      let b = and_parts (modes_range s n (at + 5)) (eqb (at + 5 + n) (record_end s at)) a.1 in
      each-tested ModeOk (mode_range s) (mode_range s) (byte_at s) mode_end (λ i x y. leb-true (byte_at s i) 1 x) n (at + 5) b.0 b.0

  -- ---- goals

  module _ (r vars : ℕ) where
    relation-known : (q a : ℕ) → relation_named s r q a ≡ true → q < r
    unfolding relation_named
    relation-known q a e = ltb-true q r (and_parts (ltb q r) _ e).0

    literal-made : (at : ℕ) → literal_named s r vars at ≡ true → LiteralMade r (literal_of s at)
    unfolding literal_named literal_of
    literal-made at e =
        let q = byte_at s at in
        let a = byte_at s (at + 1) in
        let w = (and_parts (cond (eqb q 255) (eqb a 2) (relation_named s r q a)) (terms_named s vars a (at + 2)) e).0 in
        record {
          pair = λ z. list_length (term_at s) term_end a (at + 2) ∙ eqb-true a 2 (rw (eq-eqb q 255 z) at w);
          known = λ z. relation-known q a (rw (ne_eqb q 255 z) at w);
        }

    stage-made : (at : ℕ) → stage_range s at ≡ true → stage_named s r vars at ≡ true → RowOk (LiteralMade r) (stage_of s at)
    unfolding stage_range stage_of
    stage-made at d e =
        let n = byte_at s at in
        row-tested (LiteralMade r) (literal_named s r vars) (literal_of s) (literal_end s) literal-made n (at + 1) (leb-true 1 n (and_parts (leb 1 n) _ d).0) e

    goal-made : (at : ℕ) → goal_range s at ≡ true → goal_named s r vars at ≡ true → GoalMade r (goal_of s at)
    unfolding goal_range goal_named goal_of
    goal-made at d e =
        let n = byte_at s at in
        let a = and_parts (leb n 8) (stages_range s n (at + 1) && leb (literal_count s n (at + 1)) 8) d in
        let b = and_parts (stages_range s n (at + 1)) (leb (literal_count s n (at + 1)) 8) a.1 in
        each-tested (RowOk (LiteralMade r)) (stage_range s) (stage_named s r vars) (stage_of s) (stage_end s) stage-made n (at + 1) b.0 e

  -- ---- clauses

  clause-made : (r at : ℕ) → ClauseRight s r at → ClauseMade r (clause_of s at)
  unfolding clause_of clause_inside
  clause-made r at p =
      let v = byte_at s (at + 7) in
      let f = clause-fields s at p.body in
      let a = and_parts (terms_named s v (byte_at s (at + 5)) (at + 8)) (goal_named s r v (guard_at s at) && goal_named s r v (body_at s at)) p.names in
      let b = and_parts (goal_named s r v (guard_at s at)) (goal_named s r v (body_at s at)) a.1 in
      record {
        known = relation-known r v (byte_at s (at + 4)) (byte_at s (at + 5)) p.head;
        vars = f.vars;
        guard = goal-made r v (guard_at s at) f.guard b.0;
        body = goal-made r v (body_at s at) f.body b.1;
      }

  mark-small : (at : ℕ) → clause_body s at ≡ true → byte_at s (at + 6) ≤ 1
  unfolding clause_body
  mark-small at e = leb-true (byte_at s (at + 6)) 1 (and_parts (leb (byte_at s (at + 6)) 1) _ (and_parts (leb (byte_at s (at + 5)) 4) _ e).1).0

  -- ---- marks

  behind-listed : (n at : ℕ) (b : Clause) → (0 < n → MarkBehind b (clause_of s at)) → ((i : ℕ) → suc i < n → MarkBehind (clause_of s (along (record_end s) i at)) (clause_of s (along (record_end s) (suc i) at)))
      → MarksBehind b (list_of (clause_of s) (record_end s) n at)
  unfolding list_of along
  behind-listed zero at b g h = tt
  behind-listed (suc n) at b g h = (g (omega arith), behind-listed n (record_end s at) (clause_of s at) (λ l. h 0 (omega arith)) (λ i l. h (suc i) (omega arith)))

  marks-listed : (n at : ℕ) → (0 < n → (clause_of s at).mark ≡ 0) → ((i : ℕ) → suc i < n → MarkBehind (clause_of s (along (record_end s) i at)) (clause_of s (along (record_end s) (suc i) at)))
      → MarksMade (list_of (clause_of s) (record_end s) n at)
  unfolding list_of along
  marks-listed zero at g h = tt
  marks-listed (suc n) at g h = (g (omega arith), behind-listed n (record_end s at) (clause_of s at) (λ l. h 0 (omega arith)) (λ i l. h (suc i) (omega arith)))

  module _ (r c : ℕ) (R : Right s r c) (I : RightImage s r c) where
    past_end : (x : ℕ) → length s ≤ x → kind_at s x ≡ 0
    past_end x h =
        let a = get_or-eq_default s 0 {n = x + 2} (omega arith) in
        let b = get_or-eq_default s 0 {n = x + 2 + 1} (omega arith) in
        omega arith

    in_count : (i : ℕ) → i < c → r + i < I.count
    in_count i h = split (ltb (r + i) I.count) (λ e. ltb-true (r + i) I.count e) (λ e. absurd (outside (ltb-false (r + i) I.count e)))
      where
        outside : I.count ≤ r + i → ⊥
        outside l =
            let d = r + i - I.count in
            let z : I.count + d ≡ r + i = omega arith in
            let a : along (record_end s) d (record_at s I.count) ≡ record_at s (r + i) = (rw z at (along-add (record_end s) d I.count 0)) in
            let u = along-up (record_end s) (λ at. omega arith) d (record_at s I.count) in
            let e = I.ends in
            let k = past_end (record_at s (r + i)) (omega arith) in
            let q = (R.clause i h).kind in
            omega arith

    clause-names : (i : ℕ) → i < c → ClauseNamed s (r + i) (byte_at s (record_at s (r + i) + 7))
    clause-names i h = (I.right (r + i) (in_count i h)).names.clause (R.clause i h).kind

    first-mark : 0 < c → byte_at s (record_at s r + 6) ≡ 0
    first-mark h =
        let z : r + 0 ≡ r = omega arith in
        (rw z at ((clause-names 0 h).first (λ j l q. let k = (R.relation j (omega arith)).kind in absurd (omega arith))))

    mark-behind : (i : ℕ) → suc i < c → (byte_at s (record_at s (r + suc i) + 6) ≡ 0) ⊎ ((byte_at s (record_at s (r + suc i) + 6) ≡ 1) × (relation_in s (r + i) ≡ relation_in s (r + suc i)))
    mark-behind i h =
        let m = byte_at s (record_at s (r + suc i) + 6) in
        let small = mark-small (record_at s (r + suc i)) (R.clause (suc i) h).body in
        let before = clause-names i (omega arith) in
        let here = clause-names (suc i) h in
        let up = here.order (r + i) (omega arith) (R.clause i (omega arith)).kind in
        split (eqb m 0) (λ e. inl (eqb-true m 0 e))
        (λ e. let one : m ≡ 1 = (let n = eqb-false m 0 e in small_one m small n) in
        inr (
          one,
          split (eqb (relation_in s (r + i)) (relation_in s (r + suc i))) (λ f. eqb-true (relation_in s (r + i)) (relation_in s (r + suc i)) f)
              (λ f. let other = eqb-false (relation_in s (r + i)) (relation_in s (r + suc i)) f in
              let zero-mark = here.first (λ j l q w. none j l q w before other) in
              absurd (let x : m ≡ 0 = zero-mark in omega arith)),
        ))
      where
        small_one : (m : ℕ) → m ≤ 1 → (m ≡ 0 → ⊥) → m ≡ 1
        small_one zero l n = absurd (n refl)
        small_one (suc zero) l n = refl
        small_one (suc (suc m)) l n = absurd (omega arith)

        none : (j : ℕ) → j < r + suc i → record_kind s j ≡ 2 → relation_in s j ≡ relation_in s (r + suc i) → ClauseNamed s (r + i) (byte_at s (record_at s (r + i) + 7)) → (relation_in s (r + i) ≡ relation_in s (r + suc i) → ⊥) → ⊥
        none j l q w before other =
            let here = clause-names (suc i) h in
            let up = here.order (r + i) (omega arith) (R.clause i (omega arith)).kind in
            split (ltb j (r + i))
            (λ e. let b = before.order j (ltb-true j (r + i) e) q in other (omega arith))
            (λ e. let g = ltb-false j (r + i) e in let z : j ≡ r + i = omega arith in other (rw z at w))

    marks-made : MarksMade (list_of (clause_of s) (record_end s) c (record_at s r))
    unfolding clause_of
    marks-made = marks-listed c (record_at s r) first-mark (λ i h. rw (along-add (record_end s) i r 0, along-add (record_end s) (suc i) r 0) (mark-behind i h))

    program-made : Made (program_of s r c)
    unfolding program_of
    program-made =
        let z = list_length (modes_of s) (record_end s) r 0 in
        let a = record_at s (r + c) in
        let f = ask-fields s a R.goal.body in
        record {
          modes = each-listed (Each ModeOk) (modes_of s) (record_end s) r 0 (λ i h. modes-made (record_at s i) (R.relation i h).body);
          clauses = rw z (each-listed (ClauseMade r) (clause_of s) (record_end s) c (record_at s r) (λ i h. rw (along-add (record_end s) i r 0) (clause-made r (record_at s (r + i)) (R.clause i h))));
          marks = marks-made;
          vars = f.vars;
          goal = rw z (goal-made r (byte_at s (a + 4)) (a + 5) f.goal R.goal.names);
        }

-- THE LAW: the program of an accepted image can be written
pub accepted-made : (s : List ℕ) (r c : ℕ) → load_of s ≡ Ok (r, c) → Made (program_of s r c)
accepted-made s r c e = program-made s r c (accepted s r c e) ((accepted-right s).0 e)
