-- Places grow: what a row of items holds stands inside what ends behind it.
use mathlib.Core.Path.{◌≡◌}
use mathlib.Core.List.{List}
use Prim.Native.Nat.{◌+◌, ◌-◌, ◌<◌, ◌≤◌, suc, zero, ℕ}
use native.Mathlib.Omega.{arith}
use Rattle.parlog.specs.Image.{byte_at, goal_end, literal_end, literals_end, stage_end, stages_end}
use Rattle.parlog.specs.Scan.{along}

-- ---- any row

module _ (next : ℕ → ℕ) (up : (x : ℕ) → x ≤ next x) where
  along-grows : (n at : ℕ) → at ≤ along next n at
  unfolding along
  along-grows zero at = omega arith
  along-grows (suc n) at = let a = up at in let b = along-grows n (next at) in omega arith

  -- of n items the first k are behind: where the rest ends inside, so does its first item, and so does what follows
  pub rest_in : (n k at to : ℕ) → k < n → along next (n - k) at ≤ to → along next (n - (k + 1)) (next at) ≤ to
  unfolding along
  rest_in n k at to h l = let e : n - k ≡ suc (n - (k + 1)) = omega arith in rw e at l

  pub first-in : (n k at to : ℕ) → k < n → along next (n - k) at ≤ to → next at ≤ to
  first-in n k at to h l = let r = rest_in n k at to h l in let g = along-grows (n - (k + 1)) (next at) in omega arith

-- ---- literals, stages, goals

pub literal-grows : (s : List ℕ) (at : ℕ) → at ≤ literal_end s at
literal-grows s at = omega arith

pub stage-grows : (s : List ℕ) (at : ℕ) → at + 1 ≤ stage_end s at
unfolding stage_end
stage-grows s at = along-grows (literal_end s) (literal-grows s) (byte_at s at) (at + 1)

pub stage-up : (s : List ℕ) (at : ℕ) → at ≤ stage_end s at
stage-up s at = let h = stage-grows s at in omega arith

pub goal-grows : (s : List ℕ) (at : ℕ) → at + 1 ≤ goal_end s at
unfolding goal_end
goal-grows s at = along-grows (stage_end s) (stage-up s) (byte_at s at) (at + 1)

module _ (s : List ℕ) (at k to : ℕ) (e : k ≡ byte_at s at) where
  -- the literals of a stage that ends inside, the stages of a goal that does
  pub stage-in : stage_end s at ≤ to → literals_end s k (at + 1) ≤ to
  unfolding stage_end
  stage-in h = rw e h

  pub goal-in : goal_end s at ≤ to → stages_end s k (at + 1) ≤ to
  unfolding goal_end
  goal-in h = rw e h
