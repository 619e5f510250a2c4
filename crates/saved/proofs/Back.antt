-- What is saved is formed as a saved run, each row stands where it is looked for, and a saved run without fault is the save of what is read from it.
use mathlib.Core.Path.{◌∙◌, ◌≡◌, ap, refl, sym}
use mathlib.Core.List.{◌++◌, append_assoc, List}
use Prim.Native.Nat.{◌%◌, ◌*◌, ◌+◌, ◌-◌, ◌/◌, ◌<◌, ◌≤◌, suc, zero, ℕ}
use lib.Dec.{lit<, ltb}
use lib.ListN.{get_or, length, length-append, get_or-append, take}
use lib.Seq.{ext_get_or, get_or-append-add, get_or-take, length-take-le}
use borrow.Author.Tests.{ltb-false, ltb-true}
use native.Mathlib.Omega.{arith}
use native.Mathlib.Nat.{add_assoc, add-zero, suc-mul, zero-add, zero-mul}
use native.Mathlib.Numerals.{add-one}
use Rattle.lay.specs.Lay.{two}
use Rattle.parlog.proofs.Bools.{split}
use Rattle.parlog.proofs.Rows.{written_in}
use Rattle.parlog.specs.Limits.{Limits}
use Rattle.parlog.specs.Records.{word_at}
use Rattle.parlog.specs.Scan.{build}
use Rattle.parlog.specs.Tables.{cell_size, head_size, Lent, proc_count, rows_bytes, row_size, var_count, written, zeros}
use Rattle.saved.proofs.Bytes.{from_all, from_at, from-cong, from-length, from-none, head-record-length, process-record-length, rows_more, rows_none, saved-length, stack-byte, stack-length, variable-record-length}
use Rattle.saved.proofs.Written.{process-in-length, variable-in-length}
use Rattle.saved.specs.Form.{bytes_from, current_rule, head_record, numbers, process_record, record_of, saved_bytes, variable_record}
use Rattle.saved.specs.Formed.{Formed, Front}
use Rattle.saved.specs.Reading.{rule_at}
use Rattle.saved.specs.Restored.{cells_in, head_in, image_length, process_in, resumed_lent, rows_in, variable_in}

-- ---- bytes from a place

pub from-add : (l : List ℕ) (at n m : ℕ) → bytes_from l at (n + m) ≡ bytes_from l at n ++ bytes_from l (at + n) m
from-add l at n m = ext_get_or 0 (bytes_from l at (n + m)) (bytes_from l at n ++ bytes_from l (at + n) m) same (λ j h. by j (rw (from-length l at (n + m)) at h))
  where
    same : length (bytes_from l at (n + m)) ≡ length (bytes_from l at n ++ bytes_from l (at + n) m)
    same = from-length l at (n + m) ∙ sym (length-append (bytes_from l at n) (bytes_from l (at + n) m) ∙ omega (arith, from-length l at n, from-length l (at + n) m))

    by : (j : ℕ) → j < n + m → get_or (bytes_from l at (n + m)) j 0 ≡ get_or (bytes_from l at n ++ bytes_from l (at + n) m) j 0
    by j h = from_at l at (n + m) j h ∙ split (ltb j n)
        (λ e. let u : j < n = ltb-true j n e in
        let v : j < length (bytes_from l at n) = rw (from-length l at n) u in
        sym (get_or-append (bytes_from l at n) (bytes_from l (at + n) m) 0 j v ∙ from_at l at n j u))
        (λ e. let u : n ≤ j = ltb-false j n e in
        let w : j ≡ length (bytes_from l at n) + (j - n) = rw (from-length l at n) (omega arith) in
        let z : at + n + (j - n) ≡ at + j = omega arith in
        sym (ap (λ (i : ℕ). get_or (bytes_from l at n ++ bytes_from l (at + n) m) i 0) w
        ∙ get_or-append-add (bytes_from l at n) (bytes_from l (at + n) m) (j - n) 0
        ∙ from_at l (at + n) m (j - n) (omega arith)
        ∙ ap (λ (i : ℕ). get_or l i 0) z))

pub stack-cong : (f g : ℕ → List ℕ) (n : ℕ) → ((i : ℕ) → i < n → f i ≡ g i) → rows_bytes f (numbers n) ≡ rows_bytes g (numbers n)
stack-cong f g zero h = rows_none f ∙ sym (rows_none g)
stack-cong f g (suc n) h =
    let a : rows_bytes f (numbers (suc n)) ≡ rows_bytes f (numbers n) ++ f n = rw add-one at (rows_more f n) in
    let b : rows_bytes g (numbers (suc n)) ≡ rows_bytes g (numbers n) ++ g n = rw add-one at (rows_more g n) in
    let d : rows_bytes f (numbers n) ≡ rows_bytes g (numbers n) = stack-cong f g n (λ i u. h i (omega arith)) in
    let e : f n ≡ g n = h n (omega arith) in
    cc

-- a stretch of rows of one size
pub from-rows : (l : List ℕ) (at size n : ℕ) → bytes_from l at (n * size) ≡ rows_bytes (λ i. bytes_from l (at + i * size) size) (numbers n)
from-rows l at size zero = rw zero-mul (from-none l at) ∙ sym (rows_none (λ i. bytes_from l (at + i * size) size))
from-rows l at size (suc n) =
    let a = rw add-one at (rows_more (λ i. bytes_from l (at + i * size) size) n) in
    rw suc-mul (from-add l at (n * size) size) ∙ ap (λ (r : List ℕ). r ++ bytes_from l (at + n * size) size) (from-rows l at size n) ∙ sym a

-- the first bytes of a row
pub from-take : (l : List ℕ) (n : ℕ) → n ≤ length l → bytes_from l 0 n ≡ take n l
from-take l n h =
    ext_get_or 0 (bytes_from l 0 n) (take n l) (from-length l 0 n ∙ sym (length-take-le n l h)) (λ j u.
    let v : j < n = rw (from-length l 0 n) at u in
    from_at l 0 n j v ∙ rw zero-add (sym (get_or-take n l j 0 v)))

pub stack-take : (l : List ℕ) (size n : ℕ) → n * size ≤ length l → rows_bytes (λ i. bytes_from l (i * size) size) (numbers n) ≡ take (n * size) l
stack-take l size n h =
    stack-cong (λ i. bytes_from l (i * size) size) (λ i. bytes_from l (0 + i * size) size) n (λ i u. rw zero-add)
    ∙ sym (from-rows l 0 size n) ∙ from-take l (n * size) h

-- ---- a record by its bytes

front-from : (x : List ℕ) (at size kind : ℕ) (r : List ℕ) → ((k : ℕ) → k < 4 → get_or x (at + k) 0 ≡ get_or r k 0) → get_or r 0 0 + 256 * get_or r 1 0 ≡ size → get_or r 2 0 + 256 * get_or r 3 0 ≡ kind → Front x at size kind
front-from x at size kind r h e f =
    let a : get_or x at 0 ≡ get_or r 0 0 = simp add-zero at (h 0 (lit< tt)) in
    let b : get_or x (at + 1) 0 ≡ get_or r 1 0 = h 1 (lit< tt) in
    let d : get_or x (at + 2) 0 ≡ get_or r 2 0 = h 2 (lit< tt) in
    let g : get_or x (at + 2 + 1) 0 ≡ get_or r 3 0 = simp add_assoc (h 3 (lit< tt)) in
    record { size_is = rw (a, b) e; kind_is = rw (d, g) f }

record-body : (size kind : ℕ) (body : List ℕ) (k : ℕ) → get_or (record_of size kind body) (4 + k) 0 ≡ get_or body k 0
record-body size kind body k = get_or-append-add (two size ++ two kind) body k 0

-- ---- what is saved

module _ (l : Lent) (image : ℕ) where
  abbrev n : ℕ
  n = proc_count l.head

  abbrev m : ℕ
  m = var_count l.head

  abbrev first : List ℕ
  first = head_record l.head image

  abbrev second : List ℕ
  second = rows_bytes (process_record l.procs) (numbers n)

  abbrev third : List ℕ
  third = rows_bytes (variable_record l.vars) (numbers m)

  two-long : length (first ++ second) ≡ 18 + n * 28
  two-long =
      length-append first second
      ∙ omega (arith, head-record-length l.head image, stack-length (process_record l.procs) 28 (process-record-length l.procs) n)

  in_head : (k : ℕ) → k < 18 → get_or (saved_bytes l image) k 0 ≡ get_or first k 0
  unfolding saved_bytes
  in_head k h =
      get_or-append (first ++ second) third 0 k (omega (arith, two-long))
      ∙ get_or-append first second 0 k (omega (arith, head-record-length l.head image))

  in-procs : (i k : ℕ) → i < n → k < 28 → get_or (saved_bytes l image) (18 + i * 28 + k) 0 ≡ get_or (process_record l.procs i) k 0
  unfolding saved_bytes
  in-procs i k h u =
      let e : 18 + i * 28 + k ≡ length first + (i * 28 + k) = omega (arith, head-record-length l.head image) in
      get_or-append (first ++ second) third 0 (18 + i * 28 + k) (omega (arith, two-long))
      ∙ ap (λ (j : ℕ). get_or (first ++ second) j 0) e
      ∙ get_or-append-add first second (i * 28 + k) 0
      ∙ stack-byte (process_record l.procs) 28 (process-record-length l.procs) n i k h u

  in-vars : (v k : ℕ) → v < m → k < 8 → get_or (saved_bytes l image) (18 + n * 28 + v * 8 + k) 0 ≡ get_or (variable_record l.vars v) k 0
  unfolding saved_bytes
  in-vars v k h u =
      let e : 18 + n * 28 + v * 8 + k ≡ length (first ++ second) + (v * 8 + k) = omega (arith, two-long) in
      ap (λ (j : ℕ). get_or (first ++ second ++ third) j 0) e
      ∙ get_or-append-add (first ++ second) third (v * 8 + k) 0
      ∙ stack-byte (variable_record l.vars) 8 (variable-record-length l.vars) m v k h u

  abbrev front : List ℕ
  front = record_of 18 16 (bytes_from l.head 0 10)

  front_long : length front ≡ 14
  front_long = omega (arith, from-length l.head 0 10)

  tail : (k : ℕ) → get_or first (14 + k) 0 ≡ get_or (two image ++ two 2) k 0
  unfolding head_record
  tail k =
      let e : 14 + k ≡ length front + k = omega (arith, front_long) in
      ap (λ (r : List ℕ). get_or r (14 + k) 0) (append_assoc front (two image) (two 2))
      ∙ ap (λ (j : ℕ). get_or (front ++ (two image ++ two 2)) j 0) e ∙ get_or-append-add front (two image ++ two 2) k 0

  rule-back : rule_at (saved_bytes l image) 0 ≡ current_rule
  rule-back =
      let a : get_or (saved_bytes l image) 16 0 ≡ 2 = in_head 16 (lit< tt) ∙ tail 2 in
      let b : get_or (saved_bytes l image) 17 0 ≡ 0 = in_head 17 (lit< tt) ∙ tail 3 in
      omega (arith, a, b)

  -- THE LAW: what is saved is formed so
  pub saved-formed : Formed (saved_bytes l image) n m
  unfolding head_record process_record variable_record
  saved-formed = record {
    size = saved-length l image;
    head = front-from (saved_bytes l image) 0 18 16 first (λ k h. ap (λ (j : ℕ). get_or (saved_bytes l image) j 0) (zero-add k) ∙ in_head k (omega arith)) refl refl;
    rule = rule-back;
    procs = λ i h. front-from (saved_bytes l image) (18 + i * 28) 28 17 (process_record l.procs i) (λ k u. in-procs i k h (omega arith)) refl refl;
    vars = λ v h. front-from (saved_bytes l image) (18 + n * 28 + v * 8) 8 18 (variable_record l.vars v) (λ k u. in-vars v k h (omega arith)) refl refl;
  }

  process-back : (i : ℕ) → i < n → process_in (saved_bytes l image) i ≡ bytes_from l.procs (i * 24) 24
  unfolding process_record
  process-back i h = from-cong (saved_bytes l image) l.procs (18 + i * 28 + 4) (i * 24) 24 (λ k u.
      let e : 18 + i * 28 + 4 + k ≡ 18 + i * 28 + (4 + k) = omega arith in
      ap (λ (j : ℕ). get_or (saved_bytes l image) j 0) e
      ∙ in-procs i (4 + k) h (omega arith)
      ∙ record-body 28 17 (bytes_from l.procs (i * 24) 24) k
      ∙ from_at l.procs (i * 24) 24 k u)

  variable-back : (v : ℕ) → v < m → variable_in (saved_bytes l image) n v ≡ bytes_from l.vars (v * 4) 4
  unfolding variable_record
  variable-back v h = from-cong (saved_bytes l image) l.vars (18 + n * 28 + v * 8 + 4) (v * 4) 4 (λ k u.
      let e : 18 + n * 28 + v * 8 + 4 + k ≡ 18 + n * 28 + v * 8 + (4 + k) = omega arith in
      ap (λ (j : ℕ). get_or (saved_bytes l image) j 0) e
      ∙ in-vars v (4 + k) h (omega arith)
      ∙ record-body 8 18 (bytes_from l.vars (v * 4) 4) k
      ∙ from_at l.vars (v * 4) 4 k u)

  pub head-back : length l.head ≡ head_size → head_in (saved_bytes l image) ≡ l.head
  unfolding head_record
  head-back len =
      from-cong (saved_bytes l image) l.head 4 0 10 (λ k u.
      in_head (4 + k) (omega arith)
      ∙ get_or-append (front ++ two image) (two 2) 0 (4 + k) (omega (arith, length-append front (two image), front_long))
      ∙ get_or-append front (two image) 0 (4 + k) (omega (arith, front_long))
      ∙ record-body 18 16 (bytes_from l.head 0 10) k
      ∙ from_at l.head 0 10 k u)
      ∙ from_all l.head 10 len

  pub image-back : image ≤ 65535 → image_length (saved_bytes l image) ≡ image
  image-back h =
      let a : get_or (saved_bytes l image) 14 0 ≡ image % 256 = in_head 14 (lit< tt) ∙ tail 0 in
      let b : get_or (saved_bytes l image) 15 0 ≡ image / 256 % 256 = in_head 15 (lit< tt) ∙ tail 1 in
      omega (arith, a, b)

  pub rows_back : (size : ℕ) → n * row_size ≤ length l.procs → rows_in (saved_bytes l image) n size ≡ written (take (n * row_size) l.procs) (zeros size)
  unfolding rows_in
  rows_back size h = ap (λ (r : List ℕ). written r (zeros size)) (stack-cong (process_in (saved_bytes l image)) (λ i. bytes_from l.procs (i * 24) 24) n process-back ∙ stack-take l.procs 24 n h)

  pub cells-back : (size : ℕ) → m * cell_size ≤ length l.vars → cells_in (saved_bytes l image) n m size ≡ written (take (m * cell_size) l.vars) (zeros size)
  unfolding cells_in
  cells-back size h = ap (λ (r : List ℕ). written r (zeros size)) (stack-cong (variable_in (saved_bytes l image) n) (λ v. bytes_from l.vars (v * 4) 4) m variable-back ∙ stack-take l.vars 4 m h)

-- ---- a saved run is the save of what is read from it

low_of : (a b z : ℕ) → a < 256 → b < 256 → a + 256 * b ≡ z → a ≡ z % 256
low_of a b z h g e = omega arith

high-of : (a b z : ℕ) → a < 256 → b < 256 → a + 256 * b ≡ z → b ≡ z / 256 % 256
high-of a b z h g e = omega arith

module _ (x : List ℕ) (are : (j : ℕ) → get_or x j 0 < 256) where
  two_bytes : (at z : ℕ) → word_at x at ≡ z → bytes_from x at 2 ≡ two z
  unfolding bytes_from build
  two_bytes at z e =
      let a : get_or x (at + 0) 0 ≡ z % 256 = simp add-zero (low_of (get_or x at 0) (get_or x (at + 1) 0) z (are at) (are (at + 1)) e) in
      let b : get_or x (at + 1) 0 ≡ z / 256 % 256 = high-of (get_or x at 0) (get_or x (at + 1) 0) z (are at) (are (at + 1)) e in
      cc

  front_bytes : (at size kind n : ℕ) → Front x at size kind → bytes_from x at (4 + n) ≡ record_of size kind (bytes_from x (at + 4) n)
  front_bytes at size kind n f =
      let a : bytes_from x at (2 + 2) ≡ bytes_from x at 2 ++ bytes_from x (at + 2) 2 = from-add x at 2 2 in
      let b : bytes_from x at 4 ≡ two size ++ two kind = a ∙ rw (two_bytes at size f.size_is, two_bytes (at + 2) kind f.kind_is) in
      from-add x at 4 n ∙ ap (λ (r : List ℕ). r ++ bytes_from x (at + 4) n) b

  module _ (a b : ℕ) (F : Formed x a b) where
    head-same : bytes_from x 0 18 ≡ head_record (head_in x) (image_length x)
    unfolding head_record
    head-same =
        let p : bytes_from x 0 14 ≡ record_of 18 16 (bytes_from x 4 10) = front_bytes 0 18 16 10 F.head in
        let q : bytes_from (head_in x) 0 10 ≡ head_in x = from_all (head_in x) 10 (from-length x 4 10) in
        let r : bytes_from x 0 16 ≡ bytes_from x 0 14 ++ bytes_from x 14 2 = from-add x 0 14 2 in
        from-add x 0 16 2 ∙ rw (r, p, two_bytes 14 (image_length x) refl, two_bytes 16 2 F.rule, q)

    module _ (size : ℕ) (enough : a * 24 ≤ size) where
      row-there : (i : ℕ) → i < a → bytes_from x (18 + i * 28 + 4) 24 ≡ bytes_from (rows_in x a size) (i * 24) 24
      unfolding rows_in
      row-there i h = from-cong x (written (rows_bytes (process_in x) (numbers a)) (zeros size)) (18 + i * 28 + 4) (i * 24) 24 (λ k u.
          sym (written_in (rows_bytes (process_in x) (numbers a)) (zeros size) (i * 24 + k) (omega (arith, stack-length (process_in x) 24 (process-in-length x) a))
          ∙ stack-byte (process_in x) 24 (process-in-length x) a i k h u
          ∙ from_at x (18 + i * 28 + 4) 24 k u))

      rows_same : bytes_from x 18 (a * 28) ≡ rows_bytes (process_record (rows_in x a size)) (numbers a)
      unfolding process_record
      rows_same = from-rows x 18 28 a ∙ stack-cong (λ i. bytes_from x (18 + i * 28) 28) (process_record (rows_in x a size)) a (λ i h. front_bytes (18 + i * 28) 28 17 24 (F.procs i h) ∙ rw (row-there i h))

    module _ (size : ℕ) (enough : b * 4 ≤ size) where
      cell-there : (v : ℕ) → v < b → bytes_from x (18 + a * 28 + v * 8 + 4) 4 ≡ bytes_from (cells_in x a b size) (v * 4) 4
      unfolding cells_in
      cell-there v h = from-cong x (written (rows_bytes (variable_in x a) (numbers b)) (zeros size)) (18 + a * 28 + v * 8 + 4) (v * 4) 4 (λ k u.
          sym (written_in (rows_bytes (variable_in x a) (numbers b)) (zeros size) (v * 4 + k) (omega (arith, stack-length (variable_in x a) 4 (variable-in-length x a) b))
          ∙ stack-byte (variable_in x a) 4 (variable-in-length x a) b v k h u
          ∙ from_at x (18 + a * 28 + v * 8 + 4) 4 k u))

      cells_same : bytes_from x (18 + a * 28) (b * 8) ≡ rows_bytes (variable_record (cells_in x a b size)) (numbers b)
      unfolding variable_record
      cells_same = from-rows x (18 + a * 28) 8 b ∙ stack-cong (λ v. bytes_from x (18 + a * 28 + v * 8) 8) (variable_record (cells_in x a b size)) b (λ v h. front_bytes (18 + a * 28 + v * 8) 8 18 4 (F.vars v h) ∙ rw (cell-there v h))

    -- THE LAW
    pub saved-again : (lim : Limits) → proc_count (head_in x) ≡ a → var_count (head_in x) ≡ b → a ≤ lim.procs → b ≤ lim.vars → x ≡ saved_bytes (resumed_lent lim x a b) (image_length x)
    unfolding saved_bytes resumed_lent
    saved-again lim ea eb ha hb =
        let whole : bytes_from x 0 (18 + a * 28 + b * 8) ≡ x = from_all x (18 + a * 28 + b * 8) F.size in
        let parts : bytes_from x 0 (18 + a * 28 + b * 8) ≡ bytes_from x 0 18 ++ bytes_from x 18 (a * 28) ++ bytes_from x (18 + a * 28) (b * 8) =
        from-add x 0 (18 + a * 28) (b * 8) ∙ rw zero-add (ap (λ (r : List ℕ). r ++ bytes_from x (18 + a * 28) (b * 8)) (from-add x 0 18 (a * 28))) in
        sym whole ∙ parts ∙ rw (ea, eb, head-same, rows_same (lim.procs * 24) (omega arith), cells_same (lim.vars * 4) (omega arith))
