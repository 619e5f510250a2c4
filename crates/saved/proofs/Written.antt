-- What the loops of the writers and readers keep.
use mathlib.Core.Path.{ap, sym, ◌∙◌, ◌≡◌}
use mathlib.Core.Bool.{Bool, ◌&&◌}
use mathlib.Core.List.{[], append_assoc, List, ◌++◌, ◌∷◌}
use Prim.Native.Nat.{ℕ, ◌*◌, ◌+◌, ◌-◌, ◌<◌, ◌≤◌}
use lib.Dec.{eqb, lit<}
use lib.ListN.{drop, get_or, length, take}
use lib.Seq.{drop-drop}
use native.Mathlib.Omega.{arith}
use native.Mathlib.Nat.{add-zero, add_assoc, zero-add}
use Rattle.lay.proofs.Laws.{laid-fits, laid-start, laid_none, laid_then, lays-then}
use Rattle.lay.specs.Lay.{laid, Lays}
use Rattle.parlog.specs.Records.{front_size}
use Rattle.parlog.specs.Tables.{cell_size, head_size, Lent, proc_count, row_size, rows_bytes, u16_at, var_count, written, zeros}
use Rattle.rows.proofs.Laws.{wiped-all, zeros-length}
use Rattle.rows.specs.Rows.{wiped}
use Rattle.saved.proofs.Bytes.{from-length, from-none, from-part, from-snoc, from_all, from_at, head-record-length, process-record-length, rows_more, rows_none, stack-length}
use Rattle.saved.specs.Form.{bytes_from, head_length, head_record, numbers, process_length, process_record, saved_bytes, variable_length, variable_record}
use Rattle.saved.specs.Restored.{counts_agree, head_in, process_in, variable_in}

-- ---- laid one behind the other

module _ (o row : List ℕ) (at : ℕ) where
  pub bytes-none : Lays o o at (bytes_from row 0 0) at
  bytes-none = record { row = rw (from-none row 0) (sym (laid_none o at)); place = rw (from-none row 0) (sym (add-zero at)) }

  -- one byte more
  pub bytes-step : (k : ℕ) {p q : List ℕ} {m r : ℕ} → m ≡ at + k → Lays o p at (bytes_from row 0 k) m → Lays p q m (get_or row k 0 ∷ []) r
      → (r ≡ at + (k + 1)) × Lays o q at (bytes_from row 0 (k + 1)) r
  bytes-step k {m = m} {r} e a b =
      let z : r ≡ m + 1 = b.place in
      let same : get_or row (0 + k) 0 ≡ get_or row k 0 = rw zero-add in
      (omega arith, rw (from-snoc row 0 k) (lays-then a (rw (← same) at b)))

  -- all bytes
  pub bytes-done : {k : ℕ} {p : List ℕ} {m : ℕ} → k ≡ length row → Lays o p at (bytes_from row 0 k) m → Lays o p at row m
  bytes-done {k} e a = rw (from_all row k (sym e)) at a

module _ (f : ℕ → List ℕ) (o : List ℕ) (at : ℕ) where
  pub stack-none : Lays o o at (rows_bytes f (numbers 0)) at
  stack-none = record { row = rw (rows_none f) (sym (laid_none o at)); place = rw (rows_none f) (sym (add-zero at)) }

  -- one record more
  pub stack-step : (i size : ℕ) {p q : List ℕ} {m r : ℕ} → length (f i) ≡ size → Lays o p at (rows_bytes f (numbers i)) m → Lays p q m (f i) r
      → (r ≡ m + size) × Lays o q at (rows_bytes f (numbers (i + 1))) r
  stack-step i size sized a b = (b.place ∙ rw sized, rw (rows_more f i) (lays-then a b))

-- ---- rows into a table of zeros

-- a part of a row copied into another
pub part-laid : (s o : List ℕ) (from at n : ℕ) {q : List ℕ} → q ≡ take (from + n - from) (drop from s) → from + n ≤ length s → at + n ≤ length o → take at o ++ (q ++ drop (at + n - at) (drop at o)) ≡ laid o at (bytes_from s from n)
part-laid s o from at n e f h =
    let z : at + n - at ≡ n = omega arith in
    let m = from-length s from n in
    let b : List ℕ = bytes_from s from n in
    rw (z, e, ← from-part s from n f, drop-drop n at o) (sym (append_assoc (take at o) b (drop (at + n) o)) ∙ ap (λ (k : ℕ). take at o ++ b ++ drop (at + k) o) (sym m) ∙ sym (laid-fits b o at (omega arith)))

module _ (f : ℕ → List ℕ) (size : ℕ) (sized : (i : ℕ) → length (f i) ≡ size) (z : List ℕ) where
  pub rows-laid : {p q : List ℕ} (i : ℕ) → p ≡ laid z 0 (rows_bytes f (numbers i)) → q ≡ laid p (i * size) (f i) → q ≡ laid z 0 (rows_bytes f (numbers (i + 1)))
  rows-laid {p} i e g =
      let r : List ℕ = rows_bytes f (numbers i) in
      let at : 0 + length r ≡ i * size = rw zero-add (stack-length f size sized i) in
      let both : laid (laid z 0 r) (i * size) (f i) ≡ laid z 0 (r ++ f i) = rw at at (laid_then r (f i) z 0) in
      let more : laid p (i * size) (f i) ≡ laid z 0 (r ++ f i) = rw e both in
      g ∙ rw (rows_more f i) more

  rows-done : {p : List ℕ} (n : ℕ) → p ≡ laid z 0 (rows_bytes f (numbers n)) → n * size ≤ length z → p ≡ written (rows_bytes f (numbers n)) z
  unfolding written
  rows-done n e enough =
      let long : length (rows_bytes f (numbers n)) ≤ length z = rw (stack-length f size sized n) enough in
      e ∙ laid-start (rows_bytes f (numbers n)) z long

-- all bytes made zero, and no row yet
pub table-begin : (f : ℕ → List ℕ) (l : List ℕ) (n m : ℕ) {p : List ℕ} → n ≡ length l → m ≡ length l → p ≡ wiped l 0 n → p ≡ laid (zeros m) 0 (rows_bytes f (numbers 0))
table-begin f l n m a b e = e ∙ rw (a, b, rows_none f) (wiped-all l ∙ sym (laid_none (zeros (length l)) 0))

-- all rows
pub table_done : (f : ℕ → List ℕ) (size : ℕ) → ((i : ℕ) → length (f i) ≡ size) → (k m i n : ℕ) {p : List ℕ} → k ≡ m → p ≡ laid (zeros k) 0 (rows_bytes f (numbers i)) → i ≤ n → n ≤ i → n * size ≤ m
    → p ≡ written (rows_bytes f (numbers n)) (zeros m)
table_done f size sized k m i n {p} z e g h enough =
    let same : i ≡ n = omega arith in
    let there : p ≡ laid (zeros m) 0 (rows_bytes f (numbers n)) = rw (z, same) at e in
    rows-done f size sized (zeros m) n there (rw (zeros-length m) enough)

pub process-in-length : (x : List ℕ) (i : ℕ) → length (process_in x i) ≡ row_size
process-in-length x i = from-length x (head_length + i * process_length + front_size) row_size

pub variable-in-length : (x : List ℕ) (a v : ℕ) → length (variable_in x a v) ≡ cell_size
variable-in-length x a v = from-length x (head_length + a * process_length + v * variable_length + front_size) cell_size

-- ---- the whole

pub head-place : (o h : List ℕ) (image : ℕ) {p : List ℕ} {r : ℕ} → Lays o p 0 (head_record h image) r → r ≡ head_length
head-place o h image a = a.place ∙ rw (head-record-length h image)

pub processes-place : (o procs : List ℕ) (at n : ℕ) {p : List ℕ} {r : ℕ} → Lays o p at (rows_bytes (process_record procs) (numbers n)) r → r ≡ at + n * process_length
processes-place o procs at n a = a.place ∙ rw (stack-length (process_record procs) process_length (process-record-length procs) n)

pub whole-laid : (l : Lent) (image : ℕ) {o p q r : List ℕ} {n m i j k : ℕ} → n ≡ proc_count l.head → m ≡ var_count l.head
    → Lays o p 0 (head_record l.head image) i → Lays p q i (rows_bytes (process_record l.procs) (numbers n)) j → Lays q r j (rows_bytes (variable_record l.vars) (numbers m)) k
    → Lays o r 0 (saved_bytes l image) k
unfolding saved_bytes
whole-laid l image en em a b d = lays-then (lays-then a (rw en at b)) (rw em at d)

-- ---- the counts

module _ (x : List ℕ) where
  counts-at : (k : ℕ) → k + 1 < head_size → u16_at (head_in x) k ≡ u16_at x (front_size + k)
  counts-at k h =
      let a : get_or (head_in x) k 0 ≡ get_or x (front_size + k) 0 = from_at x front_size head_size k (omega arith) in
      let b : get_or (head_in x) (k + 1) 0 ≡ get_or x (front_size + k + 1) 0 = simp add_assoc (from_at x front_size head_size (k + 1) h) in
      cc

  pub counts-said : (a b : ℕ) {n m : ℕ} {q : Bool} → n ≡ u16_at x 4 → m ≡ u16_at x 6 → q ≡ (eqb n a && eqb m b) → q ≡ counts_agree x a b
  unfolding counts_agree
  counts-said a b {n} {m} en em eq =
      let u : proc_count (head_in x) ≡ n = counts-at 0 (lit< tt) ∙ sym en in
      let v : var_count (head_in x) ≡ m = counts-at 2 (lit< tt) ∙ sym em in
      eq ∙ rw (u, v)
