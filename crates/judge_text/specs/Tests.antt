-- What the tests of a clause tell and need.
use Rattle.std.specs.Prelude.{Bool, not, ◌≤◌, Result, ℕ, Err, Ok}
use Rattle.parlog.specs.Load.{refuse_if}
use Rattle.parlog.specs.declared.Progress.{Progress}

-- the first of four tests that fails
unfoldable pub tested : Bool → Bool → Bool → Bool → Progress → Result Progress ℕ
tested many right known full next = refuse_if many 6 (refuse_if (not right) 4 (refuse_if (not known) 5 (refuse_if full 6 (Ok next))))

-- how large the counts are before a clause
pub record Counted (g : Progress) : Type 0 where
  pub relations : g.relations ≤ 32
  pub clauses : g.clauses ≤ 64
  pub kind : g.kind ≤ 2
  pub block : g.block ≤ 8

-- and behind it
abbrev pub kept : Result Progress ℕ → Type 0
kept (Ok g) = Counted g
kept (Err n) = (1 ≤ n) × (n ≤ 6)
