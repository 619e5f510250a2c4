-- One turn of a goal that is read to its end, and what the end says of the tests.
use mathlib.Core.Path.{◌≡◌, ap, refl}
use mathlib.Core.Bool.{◌&&◌, Bool, false, true}
use mathlib.Core.List.{List}
use Prim.Native.Nat.{◌+◌, ◌-◌, ◌<◌, ◌≤◌, suc, zero, ℕ}
use lib.Dec.{eqb, leb}
use Rattle.std.specs.Prelude.{Some, None, IfSome}
use Rattle.std.specs.Bool.{then_some}
use Rattle.std.specs.Option.{option_eq}
use borrow.Author.Tests.{le-leb, lt-leb}
use native.Mathlib.Omega.{arith}
use Rattle.std.specs.List.{list_all, range_with_len}
use Rattle.load_body.specs.Reading.{stages_row}
use Rattle.parlog.specs.Body.{clause_body, goal_range, literal_count, literals_range, mode_range, modes_range, stage_range, stages_range}
use Rattle.parlog.specs.Image.{body_at, goal_end, guard_at, literals_end, stage_end, stages_end}
use Rattle.parlog.specs.Records.{byte_at}
use Rattle.parlog.specs.Scan.{along, each, total}

-- ---- modes, one by one

pub modes-all : (s : List ℕ) (n at : ℕ) → list_all (mode_range s) (range_with_len at n) ≡ modes_range s n at
unfolding each
modes-all s zero at = refl
modes-all s (suc n) at = ap (λ b. mode_range s at && b) (modes-all s n (at + 1))

-- ---- a stage has at least 1 literal

pub stage-read : (s : List ℕ) (at : ℕ) → (byte_at s at ≡ 0 → ⊥) → then_some (literals_range s (byte_at s at) (at + 1)) (literals_end s (byte_at s at) (at + 1)) ≡ then_some (stage_range s at) (stage_end s at)
unfolding stage_range stage_end
stage-read s at h = rw (le-leb 1 (byte_at s at) (omega arith))

pub stage-none : (s : List ℕ) (at : ℕ) → byte_at s at ≡ 0 → then_some (stage_range s at) (stage_end s at) ≡ None
unfolding stage_range
stage-none s at h = rw (lt-leb 1 (byte_at s at) (omega arith))

-- ---- the stages of a goal

-- of n stages the first k, with sum literals, are behind
module _ (s : List ℕ) (n k at sum : ℕ) where
  pub stages-none : n ≤ k → sum ≤ 8 → stages_row s (n - k) at sum ≡ Some at
  unfolding each along total
  stages-none h l = let e : n - k ≡ 0 = omega arith in rw (e, le-leb (sum + 0) 8 (omega arith))

  pub stages-more : k < n → stage_range s at ≡ true → stages_row s (n - k) at sum ≡ stages_row s (n - (k + 1)) (stage_end s at) (sum + byte_at s at)
  unfolding each along total
  stages-more h t =
      let e : n - k ≡ suc (n - (k + 1)) = omega arith in
      let a : sum + (byte_at s at + literal_count s (n - (k + 1)) (stage_end s at)) ≡ sum + byte_at s at + literal_count s (n - (k + 1)) (stage_end s at) = omega arith in
      rw (e, t, a)

  pub stages-stop : k < n → stage_range s at ≡ false → stages_row s (n - k) at sum ≡ None
  unfolding each
  stages-stop h t = let e : n - k ≡ suc (n - (k + 1)) = omega arith in rw (e, t)

  pub stages-many : k < n → 8 < sum + byte_at s at → stages_row s (n - k) at sum ≡ None
  unfolding total
  stages-many h l =
      let e : n - k ≡ suc (n - (k + 1)) = omega arith in
      let a : leb (sum + literal_count s (suc (n - (k + 1))) at) 8 ≡ false = lt-leb (sum + literal_count s (suc (n - (k + 1))) at) 8 (omega arith) in
      rw (e, a) (neither (stages_range s (suc (n - (k + 1))) at) (stages_end s (suc (n - (k + 1))) at))
    where
      neither : (b : Bool) (e : ℕ) → then_some (b && false) e ≡ None
      neither true e = refl
      neither false e = refl

module _ (s : List ℕ) where
  -- 0 to 8 stages make a goal
  pub goal-read : (at : ℕ) → byte_at s at ≤ 8 → stages_row s (byte_at s at) (at + 1) 0 ≡ then_some (goal_range s at) (goal_end s at)
  unfolding goal_range goal_end
  goal-read at h =
      let a : 0 + literal_count s (byte_at s at) (at + 1) ≡ literal_count s (byte_at s at) (at + 1) = omega arith in
      rw (le-leb (byte_at s at) 8 h, a)

  pub goal-long : (at : ℕ) → 8 < byte_at s at → then_some (goal_range s at) (goal_end s at) ≡ None
  unfolding goal_range
  goal-long at h = rw (lt-leb (byte_at s at) 8 h)

-- ---- goals that end where they should

pub one_end : (b : Bool) (e to : ℕ) → option_eq eqb (then_some b e) (Some to) ≡ (b && eqb e to)
one_end true e to = refl
one_end false e to = refl

-- where there is a place, it is this one
pub within : (b : Bool) (e to : ℕ) → e ≤ to → IfSome (then_some b e) (λ x. x ≤ to)
within true e to h = h
within false e to h = tt

-- a clause whose guard or body has a fault
module _ (s : List ℕ) (at : ℕ) where
  no_clause : (a m v g : Bool) → (a && (m && (v && (g && false)))) ≡ false
  no_clause true true true true = refl
  no_clause true true true false = refl
  no_clause true true false g = refl
  no_clause true false v g = refl
  no_clause false m v g = refl

  pub guard_refused : goal_range s (guard_at s at) ≡ false → clause_body s at ≡ false
  unfolding clause_body
  guard_refused h = rw h (no_clause (leb (byte_at s (at + 5)) 4) (leb (byte_at s (at + 6)) 1) (leb (byte_at s (at + 7)) 16) false)

  pub body_refused : goal_range s (body_at s at) ≡ false → clause_body s at ≡ false
  unfolding clause_body
  body_refused h = rw h (no_clause (leb (byte_at s (at + 5)) 4) (leb (byte_at s (at + 6)) 1) (leb (byte_at s (at + 7)) 16) (goal_range s (guard_at s at)))
