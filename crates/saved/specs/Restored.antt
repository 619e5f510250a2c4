-- A saved run as tables: where each row stands in it, once its records have passed their tests. Lengths are fixed, so that places can be counted.
use Rattle.std.specs.Prelude.{◌≡◌, ◌&&◌, Bool, List, ◌*◌, ◌+◌, ℕ, eqb}
use Rattle.parlog.specs.Limits.{Limits}
use Rattle.parlog.specs.Records.{front_size, word_at}
use Rattle.parlog.specs.Tables.{cell_size, head_size, lent, Lent, proc_count, rows_bytes, row_size, var_count, written, zeros}
use Rattle.saved.specs.Form.{bytes_from, head_length, numbers, process_length, variable_length}

-- Saved 2: the ten bytes of the head
abbrev pub head_in : List ℕ → List ℕ
head_in x = bytes_from x front_size head_size

-- Saved 2: the image's length
abbrev pub image_length : List ℕ → ℕ
image_length x = word_at x (front_size + head_size)

-- Saved 9: the head's counts are those of the records
unfoldable pub counts_agree : List ℕ → ℕ → ℕ → Bool
counts_agree x a b = eqb (proc_count (head_in x)) a && eqb (var_count (head_in x)) b

-- Saved 3: the row of process i
abbrev pub process_in : List ℕ → ℕ → List ℕ
process_in x i = bytes_from x (head_length + i * process_length + front_size) row_size

-- Saved 3: the row of variable v, behind a processes
abbrev pub variable_in : List ℕ → ℕ → ℕ → List ℕ
variable_in x a v = bytes_from x (head_length + a * process_length + v * variable_length + front_size) cell_size

-- Saved 10: the process table: a rows, and zeros behind
unfoldable pub rows_in : List ℕ → ℕ → ℕ → List ℕ
rows_in x a size = written (rows_bytes (process_in x) (numbers a)) (zeros size)

-- Saved 10: the variable table: b rows, and zeros behind
unfoldable pub cells_in : List ℕ → ℕ → ℕ → ℕ → List ℕ
cells_in x a b size = written (rows_bytes (variable_in x a) (numbers b)) (zeros size)

-- Saved 10: the tables of a saved run of a processes and b variables
unfoldable pub resumed_lent : Limits → List ℕ → ℕ → ℕ → Lent
resumed_lent lim x a b = lent (head_in x) (rows_in x a (lim.procs * row_size)) (cells_in x a b (lim.vars * cell_size))

-- the bytes that a run read back leaves
pub record RestoreSays (x : List ℕ) (a b p v : ℕ) (head procs vars : List ℕ) : Type 0 where
  pub head_is : head ≡ head_in x
  pub procs_are : procs ≡ rows_in x a p
  pub vars_are : vars ≡ cells_in x a b v
