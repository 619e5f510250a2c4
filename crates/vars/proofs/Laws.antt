-- The laws of variable rows: what a binding is after a row was written.
use Rattle.std.specs.Prelude.{Option, None, Some}
use Rattle.std.specs.Int.{to_le_bytes, w32}
use mathlib.Core.Path.{◌∙◌, ◌≡◌, ap, refl}
use mathlib.Core.Logic.{⊎_elim}
use mathlib.Core.Bool.{true}
use mathlib.Core.List.{[], ◌++◌, ◌∷◌, List}
use Prim.Native.Nat.{◌%◌, ◌*◌, ◌+◌, ◌/◌, ◌<◌, ◌≤◌, suc, zero, ℕ}
use lib.Dec.{lit<}
use lib.ListN.{drop, get_or, length, set, take}
use lib.Seq.{sets-eq}
use native.Mathlib.Omega.{arith}
use native.Mathlib.Nat.{add-zero}
use native.Mathlib.Numerals.{add-one, add-three, add-two}
use Rattle.parlog.proofs.Rows.{apart, splice-after, splice-before, splice-in, splice-length}
use Rattle.parlog.specs.TableRules.{cell_known}
use Rattle.parlog.specs.Tables.{binding_at, binding_by, binding_bytes, cell_size, number_at, number_code, sort_at, sort_code}
use Rattle.parlog.specs.declared.Term.{Term}
use Rattle.parlog.specs.declared.Term.TheVariants.{Const, Var}
use Rattle.vars.specs.Cells.{put_cell}

thirds : (m : ℕ) → m % 256 + m / 256 % 256 * 256 + m / 65536 * 65536 ≡ m
thirds m = omega arith

-- two tables whose rows v and w have the same bytes have the same binding there
module _ (l m : List ℕ) (v w : ℕ) (h : (k : ℕ) → k < cell_size → get_or l (v * cell_size + k) 0 ≡ get_or m (w * cell_size + k) 0) where
  sort-cong : sort_at l v ≡ sort_at m w
  sort-cong = simp add-zero at (h 0 (lit< tt))

  number-cong : number_at l v ≡ number_at m w
  number-cong = cc (h 1 (lit< tt), h 2 (lit< tt), h 3 (lit< tt))

  pub binding-cong : binding_at l v ≡ binding_at m w
  unfolding binding_at
  binding-cong = cc (sort-cong, number-cong)

  pub known-cong : cell_known l v ≡ cell_known m w
  unfolding cell_known
  known-cong = rw (sort-cong, number-cong)

pub cell-length : (b : Option Term) → length (binding_bytes b) ≡ cell_size
unfolding binding_bytes
cell-length b = refl

-- what the bytes of a binding mean, as a table of one row
pub binding-back : (b : Option Term) → binding_at (binding_bytes b) 0 ≡ b
unfolding binding_bytes binding_at binding_by
binding-back None = refl
binding-back (Some (Const c)) = simp thirds
binding-back (Some (Var v)) = simp thirds

pub known-back : (b : Option Term) → cell_known (binding_bytes b) 0 ≡ true
unfolding binding_bytes cell_known
known-back None = refl
known-back (Some (Const c)) = refl
known-back (Some (Var v)) = refl

module _ (l : List ℕ) (v : ℕ) (b : Option Term) (enough : v * cell_size + cell_size ≤ length l) where
  pub cell-put-length : length (put_cell l v (binding_bytes b)) ≡ length l
  unfolding put_cell
  cell-put-length = splice-length l (v * cell_size) (binding_bytes b) cell_size (cell-length b) enough

  -- another row's bytes stay
  byte-other : (w : ℕ) → (w ≡ v → ⊥) → (k : ℕ) → k < cell_size → get_or (put_cell l v (binding_bytes b)) (w * cell_size + k) 0 ≡ get_or l (w * cell_size + k) 0
  unfolding put_cell
  byte-other w ne k h =
      ⊎_elim (λ lt. splice-before l (v * cell_size) (binding_bytes b) cell_size (cell-length b) enough (w * cell_size + k) (omega arith))
      (λ ge. splice-after l (v * cell_size) (binding_bytes b) cell_size (cell-length b) enough (w * cell_size + k) (omega arith))
      (apart w v ne)

  pub cell-byte-past : (j : ℕ) → v * cell_size + cell_size ≤ j → get_or (put_cell l v (binding_bytes b)) j 0 ≡ get_or l j 0
  unfolding put_cell
  cell-byte-past j h = splice-after l (v * cell_size) (binding_bytes b) cell_size (cell-length b) enough j h

  byte-same : (k : ℕ) → k < cell_size → get_or (put_cell l v (binding_bytes b)) (v * cell_size + k) 0 ≡ get_or (binding_bytes b) (0 * cell_size + k) 0
  unfolding put_cell
  byte-same k h = splice-in l (v * cell_size) (binding_bytes b) cell_size (cell-length b) enough k h ∙ ap (λ (j : ℕ). get_or (binding_bytes b) j 0) (omega arith)

  pub binding-other : (w : ℕ) → (w ≡ v → ⊥) → binding_at (put_cell l v (binding_bytes b)) w ≡ binding_at l w
  binding-other w ne = binding-cong (put_cell l v (binding_bytes b)) l w w (byte-other w ne)

  pub known-other : (w : ℕ) → (w ≡ v → ⊥) → cell_known (put_cell l v (binding_bytes b)) w ≡ cell_known l w
  known-other w ne = known-cong (put_cell l v (binding_bytes b)) l w w (byte-other w ne)

  pub binding-same : binding_at (put_cell l v (binding_bytes b)) v ≡ b
  binding-same = binding-cong (put_cell l v (binding_bytes b)) (binding_bytes b) v 0 byte-same ∙ binding-back b

  pub known_same : cell_known (put_cell l v (binding_bytes b)) v ≡ true
  known_same = known-cong (put_cell l v (binding_bytes b)) (binding_bytes b) v 0 byte-same ∙ known-back b

-- the bytes of a number
pub low_in : {l : List ℕ} (m : ℕ) → l ≡ to_le_bytes w32 m → get_or l 0 0 ≡ m % 256
low_in m e = rw e

pub middle_in : {l : List ℕ} (m : ℕ) → l ≡ to_le_bytes w32 m → get_or l 1 0 ≡ m / 256 % 256
middle_in m e = rw e

pub top_in : {l : List ℕ} (m : ℕ) → m < 16777216 → l ≡ to_le_bytes w32 m → get_or l 2 0 ≡ m / 65536
top_in m h e = rw e (omega arith)

-- four stores are a row
stores : (l : List ℕ) (i a b c d : ℕ) → i + cell_size ≤ length l → set (set (set (set l i a) (i + 1) b) (i + 2) c) (i + 3) d ≡ take i l ++ (a ∷ b ∷ c ∷ d ∷ []) ++ drop (i + cell_size) l
stores l i a b c d enough = rw (add-one i, add-two i, add-three i) (sets-eq (a ∷ b ∷ c ∷ d ∷ []) l i enough)

pub four-stores : (l : List ℕ) (v m a b c d : ℕ) (t : Term) → v * cell_size + cell_size ≤ length l
    → m ≡ number_code (Some t) → a ≡ sort_code (Some t) → b ≡ m % 256 → c ≡ m / 256 % 256 → d ≡ m / 65536
    → set (set (set (set l (v * cell_size) a) (v * cell_size + 1) b) (v * cell_size + 2) c) (v * cell_size + 3) d ≡ put_cell l v (binding_bytes (Some t))
unfolding put_cell binding_bytes
four-stores l v m a b c d t enough em ea eb ec ed = stores l (v * cell_size) a b c d enough ∙ rw (ea, eb, ec, ed, em)

-- a row of zeros
module _ (l : List ℕ) (v : ℕ) (none : (k : ℕ) → k < cell_size → get_or l (v * cell_size + k) 0 ≡ 0) where
  cleared : (k : ℕ) → k < cell_size → get_or l (v * cell_size + k) 0 ≡ get_or (binding_bytes None) (0 * cell_size + k) 0
  unfolding binding_bytes
  cleared zero h = none zero h
  cleared (suc zero) h = none 1 h
  cleared (suc (suc zero)) h = none 2 h
  cleared (suc (suc (suc zero))) h = none 3 h
  cleared (suc (suc (suc (suc k)))) h = absurd (omega arith)

  pub binding-none : binding_at l v ≡ None
  binding-none = binding-cong l (binding_bytes None) v 0 cleared ∙ binding-back None

  pub known-none : cell_known l v ≡ true
  known-none = known-cong l (binding_bytes None) v 0 cleared ∙ known-back None
