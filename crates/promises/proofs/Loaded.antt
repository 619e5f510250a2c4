-- An accepted image has few enough relations, clauses and goal variables.
use Rattle.std.specs.Prelude.{Ok}
use mathlib.Core.Path.{◌≡◌}
use mathlib.Core.List.{List}
use Prim.Native.Nat.{◌+◌, ◌≤◌, ℕ}
use Rattle.load.proofs.Accepted.{accepted}
use Rattle.load.proofs.Inside.{ask-fields}
use Rattle.parlog.specs.Load.{load_of}
use Rattle.parlog.specs.Program.{program_of}
use Rattle.parlog.specs.Records.{record_at}

module _ (s : List ℕ) where
  -- the counts of an accepted image
  pub accepted-few : {r c : ℕ} → load_of s ≡ Ok (r, c) → (r ≤ 32) × (c ≤ 64) × ((program_of s r c).goal_vars ≤ 16)
  unfolding program_of
  accepted-few {r} {c} e = let a = accepted s r c e in (a.relations, a.clauses, (ask-fields s (record_at s (r + c)) a.goal.body).vars)
