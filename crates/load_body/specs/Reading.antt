-- Reading the stages of a goal to their end, where a goal with a fault has none, and where a record's body begins.
use Rattle.std.specs.Prelude.{◌&&◌, cond, List, ◌+◌, ℕ, eqb, leb, Option}
use Rattle.std.specs.Bool.{then_some}
use Rattle.parlog.specs.Body.{literal_count, stages_range}
use Rattle.parlog.specs.Image.{body_at, clause_kind, stages_end}

-- the place after n stages in range, if with `sum` literals before them they have at most 8
abbrev pub stages_row : List ℕ → ℕ → ℕ → ℕ → Option ℕ
stages_row s n at sum = then_some (stages_range s n at && leb (sum + literal_count s n at) 8) (stages_end s n at)

-- where the body of a clause begins; 1 of another record
abbrev pub place_of : List ℕ → ℕ → ℕ → ℕ
place_of s at kind = cond (eqb kind clause_kind) (body_at s at) 1
