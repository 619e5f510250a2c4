-- What the tests of BODY say of single fields: their ranges, and where the goals end.
use mathlib.Core.Path.{◌≡◌}
use mathlib.Core.Bool.{◌&&◌, false, true}
use mathlib.Core.List.{List}
use Prim.Native.Nat.{◌+◌, ◌<◌, ◌≤◌, ℕ}
use lib.Dec.{eqb, leb}
use lib.ListN.{length}
use borrow.Author.Tests.{eq-eqb, eqb-true, leb-true, ne_eqb}
use native.Mathlib.Omega.{arith}
use Rattle.load_names.specs.Reading.{GoalsIn}
use Rattle.parlog.proofs.Along.{total-at}
use Rattle.parlog.proofs.Bools.{and-true}
use Rattle.parlog.specs.Body.{ask_body, body_right, clause_body, goal_range, literal_count, stages_range}
use Rattle.parlog.specs.Image.{body_at, goal_end, guard_at, stage_end, stages_end}
use Rattle.parlog.specs.Records.{byte_at, record_end}

-- ---- a goal in range

pub record GoalFields (s : List ℕ) (at : ℕ) : Type 0 where
  pub stages : byte_at s at ≤ 8
  pub few : (i : ℕ) → i < byte_at s at → byte_at s (stages_end s i (at + 1)) ≤ 8

pub goal-fields : (s : List ℕ) (at : ℕ) → goal_range s at ≡ true → GoalFields s at
unfolding goal_range
goal-fields s at e =
    let n = byte_at s at in
    let a = and-true (leb n 8) (stages_range s n (at + 1) && leb (literal_count s n (at + 1)) 8) e in
    let b = and-true (stages_range s n (at + 1)) (leb (literal_count s n (at + 1)) 8) a.1 in
    let l = leb-true (literal_count s n (at + 1)) 8 b.1 in
    record { stages = leb-true n 8 a.0; few = λ i h. omega (arith, total-at (byte_at s) (stage_end s) n (at + 1) i h) }

-- ---- records in range

pub record ClauseFields (s : List ℕ) (at : ℕ) : Type 0 where
  pub vars : byte_at s (at + 7) ≤ 16
  pub guard : goal_range s (guard_at s at) ≡ true
  pub body : goal_range s (body_at s at) ≡ true
  pub ends : goal_end s (body_at s at) ≡ record_end s at

pub clause-fields : (s : List ℕ) (at : ℕ) → clause_body s at ≡ true → ClauseFields s at
unfolding clause_body
clause-fields s at e =
    let the_end = eqb (goal_end s (body_at s at)) (record_end s at) in
    let goals = goal_range s (guard_at s at) && (goal_range s (body_at s at) && the_end) in
    let a = and-true (leb (byte_at s (at + 5)) 4) (leb (byte_at s (at + 6)) 1 && (leb (byte_at s (at + 7)) 16 && goals)) e in
    let b = and-true (leb (byte_at s (at + 6)) 1) (leb (byte_at s (at + 7)) 16 && goals) a.1 in
    let d = and-true (leb (byte_at s (at + 7)) 16) goals b.1 in
    let f = and-true (goal_range s (guard_at s at)) (goal_range s (body_at s at) && the_end) d.1 in
    let h = and-true (goal_range s (body_at s at)) the_end f.1 in
    record {
      vars = leb-true (byte_at s (at + 7)) 16 d.0;
      guard = f.0;
      body = h.0;
      ends = eqb-true (goal_end s (body_at s at)) (record_end s at) h.1;
    }

pub record AskFields (s : List ℕ) (at : ℕ) : Type 0 where
  pub vars : byte_at s (at + 4) ≤ 16
  pub goal : goal_range s (at + 5) ≡ true
  pub ends : goal_end s (at + 5) ≡ record_end s at

pub ask-fields : (s : List ℕ) (at : ℕ) → ask_body s at ≡ true → AskFields s at
unfolding ask_body
ask-fields s at e =
    let a = and-true (leb (byte_at s (at + 4)) 16) (goal_range s (at + 5) && eqb (goal_end s (at + 5)) (record_end s at)) e in
    let b = and-true (goal_range s (at + 5)) (eqb (goal_end s (at + 5)) (record_end s at)) a.1 in
    record { vars = leb-true (byte_at s (at + 4)) 16 a.0; goal = b.0; ends = eqb-true (goal_end s (at + 5)) (record_end s at) b.1 }

-- the goals of a record whose fields are right end inside the bytes where the record does
pub goals-in : (s : List ℕ) (at kind : ℕ) → body_right s at kind ≡ true → record_end s at ≤ length s → GoalsIn s at kind
unfolding body_right
goals-in s at kind b h = record {
  clause = λ e. let n1 : eqb kind 1 ≡ false = ne_eqb kind 1 (λ f. omega arith) in
      let q = (clause-fields s at (rw (n1, eq-eqb kind 2 e) at b)).ends in
      omega arith;
  ask = λ n1 n2. let q = (ask-fields s at (rw (ne_eqb kind 1 n1, ne_eqb kind 2 n2) at b)).ends in omega arith;
}
