-- Reading a row of items to its end, where a row with a fault has none.
use Rattle.std.specs.Prelude.{Bool, ℕ, Option}
use Rattle.std.specs.Bool.{then_some}
use Rattle.parlog.specs.Scan.{along, each}

-- the place after n items, if they all pass the test
abbrev pub row : (ℕ → Bool) → (ℕ → ℕ) → ℕ → ℕ → Option ℕ
row ok next n at = then_some (each ok next n at) (along next n at)
