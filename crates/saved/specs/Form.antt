-- A saved run: a row of records as an image is, one for the head, one for each process, one for each variable.
use Rattle.std.specs.Prelude.{cond, ◌++◌, List, ◌*◌, ◌+◌, ℕ, eqb, get_or}
use Rattle.lay.specs.Lay.{two}
use Rattle.parlog.specs.Scan.{build}
use Rattle.parlog.specs.Tables.{cell_at, cell_size, head_size, Lent, proc_count, row_at, rows_bytes, row_size, var_count}

-- ---- kinds and their lengths

-- Saved 1: the head
abbrev pub head_kind : ℕ
head_kind = 16

-- Saved 1: a process
abbrev pub process_kind : ℕ
process_kind = 17

-- Saved 1: a variable
abbrev pub variable_kind : ℕ
variable_kind = 18

-- Saved 2: of the head's record
abbrev pub head_length : ℕ
head_length = 18

-- Saved 13: of that record as long as it had no rule number
abbrev pub former_length : ℕ
former_length = 16

-- Saved 13: the number of the rules by which runs are made
abbrev pub current_rule : ℕ
current_rule = 2

-- Saved 3: of a process's record
abbrev pub process_length : ℕ
process_length = 28

-- Saved 3: of a variable's record
abbrev pub variable_length : ℕ
variable_length = 8

-- Saved 2, 3: the one length of a kind
abbrev pub length_of : ℕ → ℕ
length_of kind = cond (eqb kind head_kind) head_length (cond (eqb kind process_kind) process_length variable_length)

-- ---- records

-- n bytes of a row from a place
unfoldable pub bytes_from : List ℕ → ℕ → ℕ → List ℕ
bytes_from row at n = build (λ k. get_or row (at + k) 0) n

-- 0 to n - 1
unfoldable pub numbers : ℕ → List ℕ
numbers n = build (λ i. i) n

-- Image 1: a record: its length, its kind, its body
abbrev pub record_of : ℕ → ℕ → List ℕ → List ℕ
record_of size kind body = two size ++ two kind ++ body

-- Saved 2: the ten bytes of the head, the image's length, and the rule number
unfoldable pub head_record : List ℕ → ℕ → List ℕ
head_record head image = record_of head_length head_kind (bytes_from head 0 head_size) ++ two image ++ two current_rule

-- Saved 3: the row of process i, as it stands
unfoldable pub process_record : List ℕ → ℕ → List ℕ
process_record procs i = record_of process_length process_kind (bytes_from procs (row_at i) row_size)

-- Saved 3: the row of variable v, as it stands
unfoldable pub variable_record : List ℕ → ℕ → List ℕ
variable_record vars v = record_of variable_length variable_kind (bytes_from vars (cell_at v) cell_size)

-- Saved 1: the processes and variables that lent bytes have in use, with the length of their image
unfoldable pub saved_bytes : Lent → ℕ → List ℕ
saved_bytes l image =
    head_record l.head image
    ++ rows_bytes (process_record l.procs) (numbers (proc_count l.head))
    ++ rows_bytes (variable_record l.vars) (numbers (var_count l.head))

-- Saved 1: how many bytes that are
abbrev pub saved_size : ℕ → ℕ → ℕ
saved_size n m = head_length + n * process_length + m * variable_length
