-- Bytes of a row from a place, and rows one behind the other by number.
use mathlib.Core.Path.{◌∙◌, ◌≡◌, ap, refl, sym}
use mathlib.Core.List.{[], ◌++◌, ◌∷◌, append_assoc, append-nil, List}
use Prim.Native.Nat.{◌*◌, ◌+◌, ◌-◌, ◌<◌, ◌≤◌, ℕ}
use lib.ListN.{drop, get_or, length, length-append, length-drop, take}
use lib.Seq.{ext_get_or, length-take-le}
use Rattle.std.proofs.lemmas.List.{get_or-drop, get_or-take}
use native.Mathlib.Omega.{arith}
use native.Mathlib.Nat.{zero-add}
use native.Mathlib.Numerals.{add-one}
use Rattle.lay.specs.Lay.{two}
use Rattle.parlog.proofs.Rows.{build-cong, build-snoc, rows-byte, rows-length}
use Rattle.parlog.proofs.Scans.{build-at, build-length}
use Rattle.parlog.specs.Scan.{build}
use Rattle.parlog.specs.Tables.{cell_at, cell_size, head_size, Lent, proc_count, row_at, rows_bytes, row_size, var_count}
use Rattle.saved.specs.Form.{bytes_from, current_rule, head_kind, head_length, head_record, numbers, process_length, process_record, record_of, saved_bytes, saved_size, variable_length, variable_record}

-- ---- bytes from a place

pub from-length : (l : List ℕ) (at n : ℕ) → length (bytes_from l at n) ≡ n
unfolding bytes_from
from-length l at n = build-length (λ k. get_or l (at + k) 0) n

pub from_at : (l : List ℕ) (at n k : ℕ) → k < n → get_or (bytes_from l at n) k 0 ≡ get_or l (at + k) 0
unfolding bytes_from
from_at l at n k h = build-at (λ j. get_or l (at + j) 0) n k 0 h

pub from-none : (l : List ℕ) (at : ℕ) → bytes_from l at 0 ≡ []
unfolding bytes_from build
from-none l at = refl

pub from-snoc : (l : List ℕ) (at n : ℕ) → bytes_from l at (n + 1) ≡ bytes_from l at n ++ (get_or l (at + n) 0 ∷ [])
unfolding bytes_from
from-snoc l at n = rw add-one (build-snoc (λ j. get_or l (at + j) 0) n)

pub from-cong : (l m : List ℕ) (a b n : ℕ) → ((k : ℕ) → k < n → get_or l (a + k) 0 ≡ get_or m (b + k) 0) → bytes_from l a n ≡ bytes_from m b n
unfolding bytes_from
from-cong l m a b n h = build-cong (λ k. get_or l (a + k) 0) (λ k. get_or m (b + k) 0) n h

-- a part of a row
pub from-part : (l : List ℕ) (at n : ℕ) → at + n ≤ length l → bytes_from l at n ≡ take (at + n - at) (drop at l)
from-part l at n h =
    let m : at + n - at ≡ n = omega arith in
    let d : n ≤ length (drop at l) = rw (length-drop at l) (omega arith) in
    rw m (ext_get_or 0 (bytes_from l at n) (take n (drop at l)) (from-length l at n ∙ sym (length-take-le n (drop at l) d)) (λ j u.
    let v : j < n = rw (from-length l at n) at u in
    from_at l at n j v ∙ sym (get_or-take n (drop at l) j 0 v ∙ get_or-drop at l j 0)))

-- all of a row
pub from_all : (l : List ℕ) (n : ℕ) → length l ≡ n → bytes_from l 0 n ≡ l
from_all l n e =
    ext_get_or 0 (bytes_from l 0 n) l (from-length l 0 n ∙ sym e) (λ j h.
    let u : j < n = rw (from-length l 0 n) at h in
    from_at l 0 n j u ∙ rw zero-add)

-- ---- rows by number

pub numbers-length : (n : ℕ) → length (numbers n) ≡ n
unfolding numbers
numbers-length n = build-length (λ i. i) n

pub numbers-at : (n i : ℕ) → i < n → get_or (numbers n) i 0 ≡ i
unfolding numbers
numbers-at n i h = build-at (λ j. j) n i 0 h

numbers-snoc : (n : ℕ) → numbers (n + 1) ≡ numbers n ++ (n ∷ [])
unfolding numbers
numbers-snoc n = rw add-one (build-snoc (λ i. i) n)

rows_snoc : (f : ℕ → List ℕ) (xs : List ℕ) (x : ℕ) → rows_bytes f (xs ++ (x ∷ [])) ≡ rows_bytes f xs ++ f x
unfolding rows_bytes
rows_snoc f [] x = append-nil (f x)
rows_snoc f (y ∷ ys) x = ap (λ (t : List ℕ). f y ++ t) (rows_snoc f ys x) ∙ sym (append_assoc (f y) (rows_bytes f ys) (f x))

pub rows_none : (f : ℕ → List ℕ) → rows_bytes f (numbers 0) ≡ []
unfolding rows_bytes numbers build
rows_none f = refl

pub rows_more : (f : ℕ → List ℕ) (n : ℕ) → rows_bytes f (numbers (n + 1)) ≡ rows_bytes f (numbers n) ++ f n
rows_more f n = rw (numbers-snoc n) (rows_snoc f (numbers n) n)

module _ (f : ℕ → List ℕ) (size : ℕ) (sized : (i : ℕ) → length (f i) ≡ size) where
  pub stack-length : (n : ℕ) → length (rows_bytes f (numbers n)) ≡ n * size
  stack-length n = rows-length f size sized (numbers n) ∙ rw numbers-length

  pub stack-byte : (n i k : ℕ) → i < n → k < size → get_or (rows_bytes f (numbers n)) (i * size + k) 0 ≡ get_or (f i) k 0
  stack-byte n i k h u = rows-byte f size sized (numbers n) 0 i k (rw numbers-length h) u ∙ ap (λ (j : ℕ). get_or (f j) k 0) (numbers-at n i h)

-- ---- how long the records are

pub head-record-length : (h : List ℕ) (image : ℕ) → length (head_record h image) ≡ head_length
unfolding head_record
head-record-length h image =
    omega (arith, length-append (record_of head_length head_kind (bytes_from h 0 head_size) ++ two image) (two current_rule), length-append (record_of head_length head_kind (bytes_from h 0 head_size)) (two image), from-length h 0 head_size)

pub process-record-length : (procs : List ℕ) (i : ℕ) → length (process_record procs i) ≡ process_length
unfolding process_record
process-record-length procs i = omega (arith, from-length procs (row_at i) row_size)

pub variable-record-length : (vars : List ℕ) (v : ℕ) → length (variable_record vars v) ≡ variable_length
unfolding variable_record
variable-record-length vars v = omega (arith, from-length vars (cell_at v) cell_size)

pub saved-length : (l : Lent) (image : ℕ) → length (saved_bytes l image) ≡ saved_size (proc_count l.head) (var_count l.head)
unfolding saved_bytes
saved-length l image =
    let a : List ℕ = head_record l.head image in
    let b : List ℕ = rows_bytes (process_record l.procs) (numbers (proc_count l.head)) in
    let d : List ℕ = rows_bytes (variable_record l.vars) (numbers (var_count l.head)) in
    length-append (a ++ b) d
    ∙ omega (
      arith,
      length-append a b,
      head-record-length l.head image,
      stack-length (process_record l.procs) process_length (process-record-length l.procs) (proc_count l.head),
      stack-length (variable_record l.vars) variable_length (variable-record-length l.vars) (var_count l.head),
    )
