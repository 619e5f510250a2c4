-- The index between two records: before the first, after a relation, after a clause, and when all are passed.
use mathlib.Core.Path.{◌∙◌, ◌≡◌, ap, refl, sym}
use mathlib.Core.List.{List}
use Prim.Native.Nat.{◌+◌, ◌<◌, ◌≤◌, ℕ}
use lib.ListN.{get_or, length, length-set, set}
use native.Mathlib.Omega.{arith}
use Rattle.index_fill.proofs.Columns.{beside, column-more, one-changes}
use Rattle.index_fill.proofs.Relations.{behind-other, behind-own, blocks-other, blocks-own, first-other, first-own, vars-own}
use Rattle.index_fill.specs.Filling.{Blocks, Bodies, Filled, First, Fits, Last, note_clause, Placed, put_clause, Vars, vars_word}
use Rattle.parlog.specs.Image.{body_at}
use Rattle.parlog.specs.Names.{follows}
use Rattle.parlog.specs.Program.{block_count, opens, program_of}
use Rattle.parlog.specs.Records.{byte_at, record_at}
use Rattle.parlog.specs.Scan.{tally}
use Rattle.parlog.specs.declared.Progress.{Progress}
use Rattle.place.proofs.Clauses.{clause-count}
use Rattle.program_block.specs.Parts.{own_before}
use Rattle.program_index.specs.Indexed.{behind_from, blocks_from, bodies_from, first_from, Headed, Indexed, index_size, vars_from}

-- ---- no clause is passed

pub filled-start : (s : List ℕ) (r c : ℕ) {ix : List ℕ} → ((k : ℕ) → k < 96 → get_or ix (blocks_from + k) 0 ≡ 0) → Filled s r c 0 ix
unfolding tally
filled-start s r c {ix} z = record {
  vars = λ j l. absurd (omega arith);
  bodies = λ j l. absurd (omega arith);
  blocks = λ j l. (z j (omega arith), omega (arith, z j (omega arith)));
  first = λ j l. let e : get_or ix (first_from + j) 0 ≡ 0 = zero-at j 32 (omega arith) in ((λ i m. absurd (omega arith)), omega arith);
  behind = λ j l. let e : get_or ix (behind_from + j) 0 ≡ 0 = zero-at j 64 (omega arith) in ((λ i a m. absurd (omega arith)), omega arith);
}
  where
    zero-at : (j d : ℕ) → d + j < 96 → get_or ix (blocks_from + d + j) 0 ≡ 0
    zero-at j d l = let e : blocks_from + d + j ≡ blocks_from + (d + j) = omega arith in rw e (z (d + j) l)

-- the relations do not matter then
pub filled-relation : (s : List ℕ) (r q c k : ℕ) {ix : List ℕ} → k ≡ 0 → Filled s r c k ix → Filled s q c k ix
unfolding tally
filled-relation s r q c k {ix} e f = rw e (record {
  vars = λ j l. absurd (omega arith);
  bodies = λ j l. absurd (omega arith);
  blocks = λ j l. let m = (f.blocks j l).1 in (omega arith, omega arith);
  first = λ j l. let m = (f.first j l).1 in ((λ i n. absurd (omega arith)), omega arith);
  behind = λ j l. let m = (f.behind j l).1 in ((λ i a n. absurd (omega arith)), omega arith);
})

-- ---- a word of the places

pub filled-place : (s : List ℕ) (r c k i v : ℕ) {ix : List ℕ} → i < vars_from → Filled s r c k ix → Filled s r c k (set ix i v)
filled-place s r c k i v {ix} h f = record {
  vars = beside (Vars (program_of s r c)) vars_from k i v ix (λ j l e. omega arith) f.vars;
  bodies = beside (Bodies s r) bodies_from k i v ix (λ j l e. omega arith) f.bodies;
  blocks = beside (Blocks (program_of s r c) k) blocks_from 32 i v ix (λ j l e. omega arith) f.blocks;
  first = beside (First (program_of s r c) k) first_from 32 i v ix (λ j l e. omega arith) f.first;
  behind = beside (Last (program_of s r c) k) behind_from 32 i v ix (λ j l e. omega arith) f.behind;
}

-- ---- a clause

module _ (s : List ℕ) (r c k : ℕ) (h : k < c) {at q : ℕ} (ea : at ≡ record_at s (r + k)) (eq : q ≡ byte_at s (at + 4)) (few : k < 64) (hq : q < 32) {ix : List ℕ} (size : length ix ≡ index_size) where
  pub filled-clause : Filled s r c k ix → {a b x f : ℕ} → Vars (program_of s r c) k a → Bodies s r k b → Blocks (program_of s r c) (k + 1) q x → First (program_of s r c) (k + 1) q f
      → Filled s r c (k + 1) (put_clause ix k q a b x f)
  filled-clause old {a} {b} {x} {f} va bo bl fi =
      let p = program_of s r c in
      let x1 = set ix (vars_from + k) a in
      let x2 = set x1 (bodies_from + k) b in
      let x3 = set x2 (blocks_from + q) x in
      let x4 = set x3 (first_from + q) f in
      let n1 : length x1 ≡ index_size = length-set ix (vars_from + k) a ∙ size in
      let n2 : length x2 ≡ index_size = length-set x1 (bodies_from + k) b ∙ n1 in
      let n3 : length x3 ≡ index_size = length-set x2 (blocks_from + q) x ∙ n2 in
      let n4 : length x4 ≡ index_size = length-set x3 (first_from + q) f ∙ n3 in
      record {
        vars = beside (Vars p) vars_from (k + 1) (behind_from + q) (k + 1) x4 (λ j l e. omega arith)
            (beside (Vars p) vars_from (k + 1) (first_from + q) f x3 (λ j l e. omega arith)
            (beside (Vars p) vars_from (k + 1) (blocks_from + q) x x2 (λ j l e. omega arith)
            (beside (Vars p) vars_from (k + 1) (bodies_from + k) b x1 (λ j l e. omega arith)
            (column-more (Vars p) vars_from k ix a (omega arith) old.vars va))));
        bodies = beside (Bodies s r) bodies_from (k + 1) (behind_from + q) (k + 1) x4 (λ j l e. omega arith)
            (beside (Bodies s r) bodies_from (k + 1) (first_from + q) f x3 (λ j l e. omega arith)
            (beside (Bodies s r) bodies_from (k + 1) (blocks_from + q) x x2 (λ j l e. omega arith)
            (column-more (Bodies s r) bodies_from k x1 b (omega arith)
            (beside (Bodies s r) bodies_from k (vars_from + k) a ix (λ j l e. omega arith) old.bodies) bo)));
        blocks = beside (Blocks p (k + 1)) blocks_from 32 (behind_from + q) (k + 1) x4 (λ j l e. omega arith)
            (beside (Blocks p (k + 1)) blocks_from 32 (first_from + q) f x3 (λ j l e. omega arith)
            (one-changes (Blocks p k) (Blocks p (k + 1)) blocks_from 32 q x2 x (omega arith)
            (beside (Blocks p k) blocks_from 32 (bodies_from + k) b x1 (λ j l e. omega arith)
            (beside (Blocks p k) blocks_from 32 (vars_from + k) a ix (λ j l e. omega arith) old.blocks))
            bl (blocks-other s r c k h ea eq)));
        first = beside (First p (k + 1)) first_from 32 (behind_from + q) (k + 1) x4 (λ j l e. omega arith)
            (one-changes (First p k) (First p (k + 1)) first_from 32 q x3 f (omega arith)
            (beside (First p k) first_from 32 (blocks_from + q) x x2 (λ j l e. omega arith)
            (beside (First p k) first_from 32 (bodies_from + k) b x1 (λ j l e. omega arith)
            (beside (First p k) first_from 32 (vars_from + k) a ix (λ j l e. omega arith) old.first)))
            fi (first-other s r c k h ea eq));
        behind = one-changes (Last p k) (Last p (k + 1)) behind_from 32 q x4 (k + 1) (omega arith)
            (beside (Last p k) behind_from 32 (first_from + q) f x3 (λ j l e. omega arith)
            (beside (Last p k) behind_from 32 (blocks_from + q) x x2 (λ j l e. omega arith)
            (beside (Last p k) behind_from 32 (bodies_from + k) b x1 (λ j l e. omega arith)
            (beside (Last p k) behind_from 32 (vars_from + k) a ix (λ j l e. omega arith) old.behind))))
            (behind-own s r c k h ea eq) (behind-other s r c k h ea eq);
      }

-- the words that are noted of it
pub filled-noted : (s : List ℕ) (r c : ℕ) (g : Progress) → g.clauses < c → {at body : ℕ} → at ≡ record_at s (r + g.clauses) → {ix : List ℕ} → Fits s g at body ix → byte_at s (at + 4) < r
    → follows g (byte_at s (at + 4)) ≡ own_before (program_of s r c) (byte_at s (at + 4)) g.clauses → body ≡ body_at s at → get_or ix (byte_at s (at + 4)) 0 ≡ record_at s (byte_at s (at + 4))
    → vars_word s at (get_or ix (byte_at s (at + 4)) 0) ≤ 510 → Filled s r c g.clauses ix → Filled s r c (g.clauses + 1) (note_clause s g at body ix)
filled-noted s r c g h {at} {body} ea {ix} fits hq mine eb er few old =
    let q = byte_at s (at + 4) in
    filled-clause s r c g.clauses h ea refl fits.room fits.relation fits.size old
    (vars-own s r c g.clauses h ea refl hq er few)
    (eb ∙ ap (body_at s) ea, fits.body_few)
    (blocks-own s r c g.clauses h ea refl mine refl refl (old.blocks q fits.relation))
    (first-own s r c g.clauses h ea refl (old.behind q fits.relation) (old.first q fits.relation))

-- ---- all records are passed

blocks_end : (s : List ℕ) (r c j : ℕ) {x : ℕ} → Blocks (program_of s r c) c j x → x ≡ block_count (program_of s r c) j
unfolding block_count
blocks_end s r c j b = b.0 ∙ ap (tally (opens (program_of s r c) j)) (sym (clause-count s r c))

pub all-indexed : (s : List ℕ) (r c : ℕ) → r ≤ 32 → c ≤ 64 → {ix : List ℕ} → Placed s (r + c + 1) ix → Filled s r c c ix → Headed (program_of s r c) → Indexed s r c ix
all-indexed s r c few most p f heads = record {
  place = λ k h. (p k (omega arith)).0;
  place_few = λ k h. let e = (p k (omega arith)).1 in omega arith;
  vars = λ k h. (f.vars k h).0;
  vars_few = λ k h. (f.vars k h).1;
  body = λ k h. (f.bodies k h).0;
  body_few = λ k h. (f.bodies k h).1;
  blocks = λ q h. blocks_end s r c q (f.blocks q (omega arith));
  blocks_few = λ q h. let e = (f.blocks q (omega arith)).1 in omega arith;
  first = λ q h. (f.first q (omega arith)).0;
  first_few = λ q h. (f.first q (omega arith)).1;
  behind = λ q h. (f.behind q (omega arith)).0;
  behind_few = λ q h. (f.behind q (omega arith)).1;
  heads = heads;
}
