-- What a writer of the variable table does to its bytes.
use Rattle.parlog.specs.declared.Term.{Term}
use Rattle.std.specs.Prelude.{◌≡◌, true, ◌++◌, List, ◌*◌, ◌+◌, ◌≤◌, ℕ, drop, get_or, length, take, Option}
use Rattle.parlog.specs.Scan.{every}
use Rattle.parlog.specs.TableRules.{cell_known}
use Rattle.parlog.specs.Tables.{cell_size, vars_in}

-- row v replaced by r
unfoldable pub put_cell : List ℕ → ℕ → List ℕ → List ℕ
put_cell l v r = take (v * cell_size) l ++ r ++ drop (v * cell_size + cell_size) l

-- the table l₀ with n variables after its first rows became vs: the rows, the same size, every byte past them as it was,
-- and no bytes that no record has, where there were none
pub record Cells (n : ℕ) (l₀ l : List ℕ) (vs : List (Option Term)) : Type 0 where
  pub size : length l ≡ length l₀
  pub cells : vars_in l (length vs) ≡ vs
  pub rest : (b : ℕ) → length vs * cell_size ≤ b → get_or l b 0 ≡ get_or l₀ b 0
  pub known : every (cell_known l₀) n ≡ true → every (cell_known l) (length vs) ≡ true
