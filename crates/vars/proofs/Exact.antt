-- What a table's bindings are, with its rest, fixes every byte, where no bytes stand that no record has.
use Rattle.parlog.specs.declared.Term.{Term}
use Rattle.std.specs.Prelude.{Option, None}
use mathlib.Core.Path.{◌∙◌, ◌≡◌, ap, sym}
use mathlib.Core.Logic.{◌≢◌}
use mathlib.Core.Bool.{◌&&◌, true}
use mathlib.Core.List.{List}
use Prim.Native.Nat.{◌%◌, ◌*◌, ◌+◌, ◌/◌, ◌<◌, ◌≤◌, suc, zero, ℕ}
use lib.Dec.{eqb, ltb}
use lib.ListN.{get_or, length}
use borrow.Author.Tests.{eqb-false, eqb-true, ltb-true}
use native.Mathlib.Omega.{arith}
use native.Mathlib.Nat.{add-zero}
use Rattle.parlog.proofs.Bools.{and-true, implies_true, split}
use Rattle.parlog.proofs.Rows.{rows-byte, rows-length, written_in, written_is, written-length, written-past}
use Rattle.parlog.proofs.Scans.{every-at, every-is}
use Rattle.parlog.specs.Scan.{every, implies}
use Rattle.parlog.specs.TableRules.{cell_known}
use Rattle.parlog.specs.Tables.{binding_at, binding_by, binding_bytes, binding_of, cell_size, number_at, number_code, rows_bytes, sort_at, sort_code, written}
use Rattle.rows.specs.Rows.{Bytes}
use Rattle.vars.proofs.Laws.{binding-back, binding-cong, cell-length, known-back, known-cong}
use Rattle.vars.proofs.Tables.{cells_at, vars-is}
use Rattle.vars.specs.Cells.{Cells}

low-third : (a b c : ℕ) → a < 256 → b < 256 → (a + b * 256 + c * 65536) % 256 ≡ a
low-third a b c h g = omega arith

mid-third : (a b c : ℕ) → a < 256 → b < 256 → (a + b * 256 + c * 65536) / 256 % 256 ≡ b
mid-third a b c h g = omega arith

top-third : (a b c : ℕ) → a < 256 → b < 256 → (a + b * 256 + c * 65536) / 65536 ≡ c
top-third a b c h g = omega arith

-- a known sort and number are those of their binding
sort-back : (s m : ℕ) → (ltb s 3 && implies (eqb s 0) (eqb m 0)) ≡ true → sort_code (binding_by s m) ≡ s
unfolding binding_by
sort-back s m e = split (eqb s 0)
    (λ a. rw a (sym (eqb-true s 0 a)))
    (λ a. split (eqb s 1)
    (λ b. rw (a, b) (sym (eqb-true s 1 b)))
    (λ b. let x : s ≢ 0 = eqb-false s 0 a in
    let y : s ≢ 1 = eqb-false s 1 b in
    let z : s < 3 = ltb-true s 3 (and-true (ltb s 3) (implies (eqb s 0) (eqb m 0)) e).0 in
    rw (a, b) (omega (arith, x, y))))

number-back : (s m : ℕ) → (ltb s 3 && implies (eqb s 0) (eqb m 0)) ≡ true → number_code (binding_by s m) ≡ m
unfolding binding_by
number-back s m e = split (eqb s 0)
    (λ a. rw a (sym (eqb-true m 0 (implies_true (eqb s 0) (eqb m 0) (and-true (ltb s 3) (implies (eqb s 0) (eqb m 0)) e).1 a))))
    (λ a. split (eqb s 1) (λ b. rw (a, b)) (λ b. rw (a, b)))

module _ (l : List ℕ) (v : ℕ) (are : Bytes l) (known : cell_known l v ≡ true) where
  sort_is : sort_code (binding_at l v) ≡ sort_at l v
  unfolding binding_at cell_known
  sort_is = sort-back (sort_at l v) (number_at l v) known

  number_is : number_code (binding_at l v) ≡ number_at l v
  unfolding binding_at cell_known
  number_is = number-back (sort_at l v) (number_at l v) known

  -- the bytes of a row from its binding
  pub cell-byte : (k : ℕ) → k < cell_size → get_or l (v * cell_size + k) 0 ≡ get_or (binding_bytes (binding_at l v)) k 0
  unfolding binding_bytes
  cell-byte zero h = simp add-zero (sym sort_is)
  cell-byte (suc zero) h = sym (rw number_is (low-third (get_or l (v * cell_size + 1) 0) (get_or l (v * cell_size + 2) 0) (get_or l (v * cell_size + 3) 0) (are (v * cell_size + 1)) (are (v * cell_size + 2))))
  cell-byte (suc (suc zero)) h = sym (rw number_is (mid-third (get_or l (v * cell_size + 1) 0) (get_or l (v * cell_size + 2) 0) (get_or l (v * cell_size + 3) 0) (are (v * cell_size + 1)) (are (v * cell_size + 2))))
  cell-byte (suc (suc (suc zero))) h = sym (rw number_is (top-third (get_or l (v * cell_size + 1) 0) (get_or l (v * cell_size + 2) 0) (get_or l (v * cell_size + 3) 0) (are (v * cell_size + 1)) (are (v * cell_size + 2))))
  cell-byte (suc (suc (suc (suc k)))) h = absurd (omega arith)

-- the bytes of a table are its bindings' bytes, and past them what was there
pub cells-bytes : {n : ℕ} {l₀ l : List ℕ} {vs : List (Option Term)} → Cells n l₀ l vs → every (cell_known l₀) n ≡ true → Bytes l → length vs * cell_size ≤ length l₀ → l ≡ written (rows_bytes binding_bytes vs) l₀
cells-bytes {n} {l₀} {l} {vs} t known are enough =
    let m : length (rows_bytes binding_bytes vs) ≡ length vs * cell_size = rows-length binding_bytes cell_size cell-length vs in
    written_is (rows_bytes binding_bytes vs) l₀ l t.size (omega arith) (λ j h. inside j (omega arith)) (λ j h. t.rest j (omega arith))
  where
    inside : (j : ℕ) → j < length vs * cell_size → get_or l j 0 ≡ get_or (rows_bytes binding_bytes vs) j 0
    inside j h =
        let v = j / cell_size in
        let k = j % cell_size in
        let e : v * cell_size + k ≡ j = omega arith in
        let g : get_or l (v * cell_size + k) 0 ≡ get_or (rows_bytes binding_bytes vs) (v * cell_size + k) 0 =
        cell-byte l v are (every-at (cell_known l) (length vs) v (t.known known) (omega arith)) k (omega arith)
        ∙ ap (λ (x : Option Term). get_or (binding_bytes x) k 0) (cells_at v t (omega arith))
        ∙ sym (rows-byte binding_bytes cell_size cell-length vs None v k (omega arith) (omega arith)) in
        rw e at g

-- and those bytes are a table with these bindings
pub cells-written : (n : ℕ) (l₀ : List ℕ) (vs : List (Option Term)) → length vs * cell_size ≤ length l₀ → Cells n l₀ (written (rows_bytes binding_bytes vs) l₀) vs
cells-written n l₀ vs enough =
    let m : length (rows_bytes binding_bytes vs) ≡ length vs * cell_size = rows-length binding_bytes cell_size cell-length vs in
    record {
      size = written-length (rows_bytes binding_bytes vs) l₀ (omega arith);
      cells = vars-is (written (rows_bytes binding_bytes vs) l₀) vs (λ v h. binding-cong (written (rows_bytes binding_bytes vs) l₀) (binding_bytes (binding_of vs v)) v 0 (here v h) ∙ binding-back (binding_of vs v));
      rest = λ b u. written-past (rows_bytes binding_bytes vs) l₀ b (omega arith);
      known = λ e. every-is (cell_known (written (rows_bytes binding_bytes vs) l₀)) (length vs) (λ v h. known-cong (written (rows_bytes binding_bytes vs) l₀) (binding_bytes (binding_of vs v)) v 0 (here v h) ∙ known-back (binding_of vs v));
    }
  where
    here : (v : ℕ) → v < length vs → (k : ℕ) → k < cell_size → get_or (written (rows_bytes binding_bytes vs) l₀) (v * cell_size + k) 0 ≡ get_or (binding_bytes (binding_of vs v)) (0 * cell_size + k) 0
    here v h k u =
        let m : length (rows_bytes binding_bytes vs) ≡ length vs * cell_size = rows-length binding_bytes cell_size cell-length vs in
        written_in (rows_bytes binding_bytes vs) l₀ (v * cell_size + k) (omega arith)
        ∙ rows-byte binding_bytes cell_size cell-length vs None v k h u
        ∙ ap (λ (j : ℕ). get_or (binding_bytes (binding_of vs v)) j 0) (omega arith)
