-- How large the numbers of a load are: what callers need for their sums.
use Rattle.parlog.specs.Answer.{Answer}
use Rattle.std.specs.Prelude.{◌≤◌, ℕ, Result, Ok, Err}
use Rattle.parlog.specs.declared.Progress.{Progress}

-- what is known between two records
pub record Small (g : Progress) : Type 0 where
  pub relations : g.relations ≤ 32
  pub clauses : g.clauses ≤ 64
  pub block : g.block ≤ 8

-- the answer of a record's tests: what is known after it, with a place that fits an index, or the number of a refusal
abbrev pub Next : Result (Progress × ℕ) ℕ → Type 0
Next (Ok (g, b)) = Small g × (b ≤ 65535)
Next (Err n) = (1 ≤ n) × (n ≤ 7)

-- the answer to an image of this length
abbrev pub Bounded : ℕ → Answer (ℕ × ℕ) → Type 0
Bounded n (Ok (r, c)) = (r ≤ 32) × (c ≤ 64) × (n ≤ 32768)
Bounded n (Err f) = (1 ≤ f.number) × (f.number ≤ 7) × (f.offset ≤ 32768)
