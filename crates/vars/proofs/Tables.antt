-- The table as a list of bindings.
use Rattle.std.specs.Prelude.{None, Option}
use mathlib.Core.Path.{ap, refl, sym, ◌∙◌, ◌≡◌}
use mathlib.Core.Bool.{true}
use mathlib.Core.List.{List, ◌++◌}
use Prim.Native.Nat.{ℕ, ◌*◌, ◌+◌, ◌-◌, ◌<◌, ◌≤◌}
use lib.Dec.{eqb, ltb}
use lib.ListN.{get_or, length, length-append, length-replicate, length-set, replicate, set}
use borrow.Author.Tests.{eqb-false, eqb-true, ltb-false, ltb-true}
use native.Mathlib.Omega.{arith}
use Rattle.parlog.proofs.Bools.{split}
use Rattle.parlog.proofs.Rows.{build-cong, build-is, build-more, build-past, build-set}
use Rattle.parlog.proofs.Scans.{build-at, build-length, every-at, every-is}
use Rattle.parlog.specs.Scan.{every}
use Rattle.parlog.specs.TableRules.{cell_known}
use Rattle.parlog.specs.Tables.{binding_at, binding_bytes, binding_of, cell_size, vars_in}
use Rattle.parlog.specs.declared.Term.{Term}
use Rattle.rows.proofs.Laws.{wiped-after, wiped-before, wiped-in, wiped-length}
use Rattle.rows.specs.Rows.{wiped}
use Rattle.vars.proofs.Laws.{binding-cong, binding-none, binding-other, binding-same, cell-byte-past, cell-put-length, known-cong, known-none, known-other, known_same}
use Rattle.vars.specs.Cells.{Cells, put_cell}

pub vars-length : (l : List ℕ) (n : ℕ) → length (vars_in l n) ≡ n
unfolding vars_in
vars-length l n = build-length (binding_at l) n

pub vars-at : (l : List ℕ) (n v : ℕ) → v < n → binding_of (vars_in l n) v ≡ binding_at l v
unfolding vars_in
vars-at l n v h = build-at (binding_at l) n v None h

-- past the used rows every variable is unbound
pub vars-past : (l : List ℕ) (n v : ℕ) → n ≤ v → binding_of (vars_in l n) v ≡ None
unfolding vars_in
vars-past l n v h = build-past (binding_at l) n v None h

pub vars-cong : (l m : List ℕ) (n : ℕ) → ((v : ℕ) → v < n → binding_at l v ≡ binding_at m v) → vars_in l n ≡ vars_in m n
unfolding vars_in
vars-cong l m n h = build-cong (binding_at l) (binding_at m) n h

pub vars-is : (l : List ℕ) (vs : List (Option Term)) → ((v : ℕ) → v < length vs → binding_at l v ≡ binding_of vs v) → vars_in l (length vs) ≡ vs
unfolding vars_in
vars-is l vs h = build-is (binding_at l) None vs h

pub vars-set-length : (l : List ℕ) (n v : ℕ) (b : Option Term) → length (set (vars_in l n) v b) ≡ n
vars-set-length l n v b = length-set (vars_in l n) v b ∙ vars-length l n

-- ---- one row written

module _ (l : List ℕ) (n v : ℕ) (b : Option Term) (enough : n * cell_size ≤ length l) (h : v < n) where
  pub vars-put : vars_in (put_cell l v (binding_bytes b)) n ≡ set (vars_in l n) v b
  unfolding vars_in
  vars-put =
      build-set (binding_at (put_cell l v (binding_bytes b))) (binding_at l) n v b h (binding-same l v b (omega arith)) (λ w u ne. binding-other l v b (omega arith) w ne)

  known-put : every (cell_known l) n ≡ true → every (cell_known (put_cell l v (binding_bytes b))) n ≡ true
  known-put e = every-is (cell_known (put_cell l v (binding_bytes b))) n (λ w u. split (eqb w v)
      (λ q. rw (eqb-true w v q) (known_same l v b (omega arith)))
      (λ q. known-other l v b (omega arith) w (eqb-false w v q) ∙ every-at (cell_known l) n w e u))

  pub cells-put : Cells n l (put_cell l v (binding_bytes b)) (set (vars_in l n) v b)
  cells-put =
      let k : length (set (vars_in l n) v b) ≡ n = vars-set-length l n v b in
      record {
        size = cell-put-length l v b (omega arith);
        cells = rw k vars-put;
        rest = λ j u. cell-byte-past l v b (omega arith) j (omega (arith, k));
        known = λ e. rw k (known-put e);
      }

-- ---- rows more

module _ (l : List ℕ) (n k : ℕ) (enough : n * cell_size + k * cell_size ≤ length l) where
  old-byte : (v : ℕ) → v < n → (j : ℕ) → j < cell_size → get_or (wiped l (n * cell_size) (k * cell_size)) (v * cell_size + j) 0 ≡ get_or l (v * cell_size + j) 0
  old-byte v h j u = wiped-before l (n * cell_size) (k * cell_size) enough (v * cell_size + j) (omega arith)

  new-byte : (v : ℕ) → v < k → (j : ℕ) → j < cell_size → get_or (wiped l (n * cell_size) (k * cell_size)) ((n + v) * cell_size + j) 0 ≡ 0
  new-byte v h j u =
      ap (λ (i : ℕ). get_or (wiped l (n * cell_size) (k * cell_size)) i 0) (omega arith) ∙ wiped-in l (n * cell_size) (k * cell_size) enough (v * cell_size + j) (omega arith)

  pub vars-grow : vars_in (wiped l (n * cell_size) (k * cell_size)) (n + k) ≡ vars_in l n ++ replicate k None
  unfolding vars_in
  vars-grow =
      build-more (binding_at (wiped l (n * cell_size) (k * cell_size))) n k None (λ v h. binding-none (wiped l (n * cell_size) (k * cell_size)) (n + v) (new-byte v h))
      ∙ ap (λ (vs : List (Option Term)). vs ++ replicate k None)
      (build-cong (binding_at (wiped l (n * cell_size) (k * cell_size))) (binding_at l) n (λ v h. binding-cong (wiped l (n * cell_size) (k * cell_size)) l v v (old-byte v h)))

  known-grow : every (cell_known l) n ≡ true → every (cell_known (wiped l (n * cell_size) (k * cell_size))) (n + k) ≡ true
  known-grow e = every-is (cell_known (wiped l (n * cell_size) (k * cell_size))) (n + k) (λ v u. split (ltb v n)
      (λ q. let h : v < n = ltb-true v n q in known-cong (wiped l (n * cell_size) (k * cell_size)) l v v (old-byte v h) ∙ every-at (cell_known l) n v e h)
      (λ q. let h : n ≤ v = ltb-false v n q in
      let i : n + (v - n) ≡ v = omega arith in
      rw i at (known-none (wiped l (n * cell_size) (k * cell_size)) (n + (v - n)) (new-byte (v - n) (omega arith)))))

  pub cells-grow : Cells n l (wiped l (n * cell_size) (k * cell_size)) (vars_in l n ++ replicate k None)
  cells-grow =
      let m : length (vars_in l n ++ replicate k None) ≡ n + k = length-append (vars_in l n) (replicate k None) ∙ omega (arith, vars-length l n, length-replicate {A = Option Term} k None) in
      record {
        size = wiped-length l (n * cell_size) (k * cell_size) enough;
        cells = rw m vars-grow;
        rest = λ j u. wiped-after l (n * cell_size) (k * cell_size) enough j (omega (arith, m));
        known = λ e. rw m (known-grow e);
      }

-- ---- changes in a row

-- nothing written
pub cells_same : (l : List ℕ) (n : ℕ) → Cells n l l (vars_in l n)
cells_same l n =
    let k : length (vars_in l n) ≡ n = vars-length l n in
    record { size = refl; cells = ap (vars_in l) k; rest = λ j u. refl; known = λ e. rw k e }

-- one change after another
pub cells-then : {n : ℕ} {l m k : List ℕ} {us vs : List (Option Term)} → Cells n l m us → Cells (length us) m k vs → length us ≤ length vs → Cells n l k vs
cells-then a b h = record { size = b.size ∙ a.size; cells = b.cells; rest = λ j u. b.rest j u ∙ a.rest j (omega arith); known = λ e. b.known (a.known e) }

-- the rows of a table, by their number
pub cells-rows : {n : ℕ} {l m : List ℕ} {vs : List (Option Term)} (k : ℕ) → Cells n l m vs → length vs ≡ k → vars_in m k ≡ vs
cells-rows {vs = vs} k t e = rw e at t.cells

-- a row of it
pub cells_at : {n : ℕ} {l m : List ℕ} {vs : List (Option Term)} (v : ℕ) → Cells n l m vs → v < length vs → binding_at m v ≡ binding_of vs v
cells_at {m = m} {vs = vs} v t h = sym (vars-at m (length vs) v h) ∙ ap (λ (q : List (Option Term)). binding_of q v) t.cells
