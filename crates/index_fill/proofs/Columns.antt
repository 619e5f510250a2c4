-- Words of a row that are written one by one: what is filled, and what stays.
use mathlib.Core.Path.{◌∙◌, ◌≡◌, sym}
use mathlib.Core.List.{◌++◌, append_assoc, List}
use Prim.Native.Nat.{◌+◌, ◌<◌, ◌≤◌, ℕ}
use lib.Dec.{eqb}
use lib.ListN.{drop, get_or, get_or-replicate, length, length-drop, length-replicate, length-take, replicate, set, take}
use lib.Seq.{drop-drop, get_or-set_other, get_or-set_same}
use borrow.Rule.Slice.PartMut.{mid_of, put_mid}
use borrow.Author.Tests.{eqb-false, eqb-true}
use native.Mathlib.Omega.{arith}
use Rattle.index_fill.specs.Filling.{Kept, Placed, put_clause}
use Rattle.parlog.proofs.Bools.{split}
use Rattle.parlog.proofs.Rows.{splice-after, splice-before, splice-in, splice-length}
use Rattle.parlog.specs.Records.{record_at}
use Rattle.program_index.specs.Indexed.{behind_from, blocks_from, bodies_from, first_from, index_size, vars_from}

-- ---- what stays

-- the words of the relations cleared, by a fill of that part
pub cleared : (ix ys : List ℕ) → length ix ≡ index_size → ys ≡ replicate (length (mid_of blocks_from 96 ix)) 0 → ((k : ℕ) → k < 96 → get_or (put_mid blocks_from 96 ix ys) (blocks_from + k) 0 ≡ 0) × Kept blocks_from index_size ix (put_mid blocks_from 96 ix ys)
cleared ix ys n e =
    let m : length (mid_of blocks_from 96 ix) ≡ 96 = omega (arith, length-take 96 (drop blocks_from ix), length-drop blocks_from ix) in
    let zeros : List ℕ = replicate 96 0 in
    let parts : put_mid blocks_from 96 ix ys ≡ take blocks_from ix ++ zeros ++ drop index_size ix = rw (e, m, drop-drop 96 blocks_from ix, append_assoc) in
    let l : length zeros ≡ 96 = length-replicate {A = ℕ} 96 0 in
    let room : blocks_from + 96 ≤ length ix = omega arith in
    rw parts (
      λ k h. splice-in ix blocks_from zeros 96 l room k h ∙ get_or-replicate 96 k 0 0 h,
      record {
        below = splice-before ix blocks_from zeros 96 l room;
        above = splice-after ix blocks_from zeros 96 l room;
        size = splice-length ix blocks_from zeros 96 l room;
      },
    )

-- a column, and a word beside it
pub beside : (P : ℕ → ℕ → Type 0) (base n i v : ℕ) (ys : List ℕ) → ((j : ℕ) → j < n → i ≡ base + j → ⊥) → ((j : ℕ) → j < n → P j (get_or ys (base + j) 0)) → (j : ℕ) → j < n → P j (get_or (set ys i v) (base + j) 0)
beside P base n i v ys ne f j l = rw (get_or-set_other ys i (base + j) v 0 (λ e. ne j l (sym e))) (f j l)

-- ---- a column, one word more

pub column-more : (P : ℕ → ℕ → Type 0) (base k : ℕ) (ys : List ℕ) (v : ℕ) → base + k < length ys → ((j : ℕ) → j < k → P j (get_or ys (base + j) 0)) → P k v → (j : ℕ) → j < k + 1 → P j (get_or (set ys (base + k) v) (base + j) 0)
column-more P base k ys v h f p j l = split (eqb j k)
    (λ b. rw (eqb-true j k b, get_or-set_same ys (base + k) v 0 h) p)
    (λ b. let ne = eqb-false j k b in rw (get_or-set_other ys (base + k) (base + j) v 0 (λ z. ne (omega arith))) (f j (omega (arith, ne))))

-- the words of the relations, of which one changes
pub one-changes : (P Q : ℕ → ℕ → Type 0) (base r q : ℕ) (ys : List ℕ) (v : ℕ) → base + q < length ys → ((j : ℕ) → j < r → P j (get_or ys (base + j) 0)) → Q q v
    → ((j : ℕ) → (q ≡ j → ⊥) → (x : ℕ) → P j x → Q j x) → (j : ℕ) → j < r → Q j (get_or (set ys (base + q) v) (base + j) 0)
one-changes P Q base r q ys v h f own other j l = split (eqb q j)
    (λ b. rw (← eqb-true q j b, get_or-set_same ys (base + q) v 0 h) own)
    (λ b. let ne = eqb-false q j b in rw (get_or-set_other ys (base + q) (base + j) v 0 (λ z. ne (omega arith))) (other j ne (get_or ys (base + j) 0) (f j l)))

-- ---- the places of the records

pub places-more : (s : List ℕ) (k : ℕ) (ys : List ℕ) (v : ℕ) → k < length ys → v ≡ record_at s k → v ≤ 32768 → Placed s k ys → Placed s (k + 1) (set ys k v)
places-more s k ys v h e few f j l = split (eqb j k)
    (λ b. rw (eqb-true j k b, get_or-set_same ys k v 0 h) (e, few))
    (λ b. let ne = eqb-false j k b in rw (get_or-set_other ys k j v 0 ne) (f j (omega (arith, ne))))

-- the words of a clause stand behind them
pub places-beside : (s : List ℕ) (n : ℕ) (ix : List ℕ) (k q a b x f : ℕ) → n ≤ vars_from → Placed s n ix → Placed s n (put_clause ix k q a b x f)
places-beside s n ix k q a b x f h p j l =
    let e = get_or-set_other (set (set (set (set ix (vars_from + k) a) (bodies_from + k) b) (blocks_from + q) x) (first_from + q) f) (behind_from + q) j (k + 1) 0 (λ z. omega arith)
    ∙ get_or-set_other (set (set (set ix (vars_from + k) a) (bodies_from + k) b) (blocks_from + q) x) (first_from + q) j f 0 (λ z. omega arith)
    ∙ get_or-set_other (set (set ix (vars_from + k) a) (bodies_from + k) b) (blocks_from + q) j x 0 (λ z. omega arith)
    ∙ get_or-set_other (set ix (vars_from + k) a) (bodies_from + k) j b 0 (λ z. omega arith)
    ∙ get_or-set_other ix (vars_from + k) j a 0 (λ z. omega arith) in
    (e ∙ (p j l).0, rw e (p j l).1)
