-- A table of the places where entries of a names row begin.
use Rattle.std.specs.Prelude.{List, ◌≡◌, ◌*◌, ◌<◌, ◌≤◌, ℕ, drop, get_or, length}
use Rattle.text_names.specs.Entries.{entry_from}

-- how many places a table has
abbrev pub table_size : ℕ
table_size = 5121

-- the first n places of the table are those of entries 0, every, 2 * every and so on
pub record Entered (names table : List ℕ) (every n : ℕ) : Type 0 where
  pub some : 0 < n
  pub fits : n ≤ length table
  pub apart : 0 < every
  pub inside : (k : ℕ) → k < n → get_or table k 0 ≤ length names
  pub begins : (k : ℕ) → k < n → drop (get_or table k 0) names ≡ entry_from names (k * every)
