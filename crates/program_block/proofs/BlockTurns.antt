-- The blocks of a relation, a turn of their loop at a time.
use mathlib.Core.Path.{◌∙◌, ◌≡◌, ap, refl, sym}
use mathlib.Core.Bool.{◌&&◌, Bool, cond, false, true}
use mathlib.Core.List.{[], List}
use Prim.Native.Nat.{◌+◌, ◌<◌, ◌≤◌, suc, zero, ℕ}
use lib.Dec.{eqb, leb}
use lib.ListN.{get_or, length}
use borrow.Author.Tests.{leb-false, leb-true}
use native.Mathlib.Omega.{arith}
use native.Mathlib.Numerals.{add-one}
use Rattle.parlog.proofs.Bools.{split}
use Rattle.parlog.specs.Program.{block_count, block_of, clause_at, in_block, opens, Program, program_of}
use Rattle.parlog.specs.Records.{byte_at, record_at}
use Rattle.parlog.specs.Scan.{tally, those}
use Rattle.place.proofs.Clauses.{clause-count}
use Rattle.program_block.specs.Parts.{opens_by, own_before}
use Rattle.program_clause.proofs.Fields.{mark-some, relation-some}
use Rattle.program_index.specs.Indexed.{Behind, Early}

-- ---- one number more, and numbers of which none passes

tally-more : (test : ℕ → Bool) (k : ℕ) → tally test (k + 1) ≡ cond (test k) (tally test k + 1) (tally test k)
unfolding tally
tally-more test k = rw (add-one k, add-one (tally test k))

pub tally-turn : (test : ℕ → Bool) (k : ℕ) {new : Bool} → new ≡ test k → {n m : ℕ} → n ≡ tally test k → m ≡ cond new (n + 1) n → m ≡ tally test (k + 1)
tally-turn test k e {n} en em = em ∙ ap (λ (z : Bool). cond z (n + 1) n) e ∙ ap (λ (z : ℕ). cond (test k) (z + 1) z) en ∙ sym (tally-more test k)

pub tally-rest : (test : ℕ → Bool) (k c : ℕ) → k ≤ c → ((j : ℕ) → k ≤ j → j < c → test j ≡ false) → tally test c ≡ tally test k
unfolding tally
tally-rest test k zero h f = let e : k ≡ 0 = omega arith in rw e
tally-rest test k (suc c) h f = split (leb k c)
    (λ b. let l = leb-true k c b in rw (f c l (omega arith)) (tally-rest test k c l (λ j a z. f j a (omega arith))))
    (λ b. let l = leb-false k c b in let e : k ≡ suc c = omega arith in rw e)

those-rest : (test : ℕ → Bool) (k c : ℕ) → k ≤ c → ((j : ℕ) → k ≤ j → j < c → test j ≡ false) → those test c ≡ those test k
unfolding those
those-rest test k zero h f = let e : k ≡ 0 = omega arith in rw e
those-rest test k (suc c) h f = split (leb k c)
    (λ b. let l = leb-true k c b in rw (f c l (omega arith)) (those-rest test k c l (λ j a z. f j a (omega arith))))
    (λ b. let l = leb-false k c b in let e : k ≡ suc c = omega arith in rw e)

-- ---- the tests of clause k

and-all : (a : Bool) → a ≡ (a && true)
and-all true = refl
and-all false = refl

pub opens_by_lem : (pr : Program) (q k : ℕ) → opens pr q k ≡ opens_by (clause_at pr k).rel (own_before pr q k) (clause_at pr k).mark q
unfolding opens opens_by own_before
opens_by_lem pr q zero = and-all (eqb (clause_at pr 0).rel q)
opens_by_lem pr q (suc k) = refl

pub own-after : (pr : Program) (q k : ℕ) → own_before pr q (k + 1) ≡ eqb (clause_at pr k).rel q
unfolding own_before
own-after pr q k = rw (add-one k)

-- a clause of another relation opens no block of this one, and is of none
pub opens-other : (pr : Program) (q k : ℕ) → eqb (clause_at pr k).rel q ≡ false → opens pr q k ≡ false
unfolding opens
opens-other pr q zero e = e
opens-other pr q (suc k) e = rw e

block-other : (pr : Program) (q b k : ℕ) → eqb (clause_at pr k).rel q ≡ false → in_block pr q b k ≡ false
unfolding in_block
block-other pr q b k e = rw e

in-block : (pr : Program) (q b k : ℕ) → in_block pr q b k ≡ (eqb (clause_at pr k).rel q && eqb (tally (opens pr q) (k + 1)) (b + 1))
unfolding in_block
in-block pr q b k = rw (add-one k, add-one b)

module _ (s : List ℕ) (r c k : ℕ) (h : k < c) {from : ℕ} (e : from ≡ record_at s (r + k)) {rel : ℕ} (er : rel ≡ byte_at s (from + 4)) where
  pub own : rel ≡ (clause_at (program_of s r c) k).rel
  own = relation-some s r c k h e er

  pub own_turn : (q : ℕ) → eqb rel q ≡ own_before (program_of s r c) q (k + 1)
  own_turn q = ap (λ (z : ℕ). eqb z q) own ∙ sym (own-after (program_of s r c) q k)

  pub opens-turn : (q : ℕ) {mark : ℕ} {mine new : Bool} → mark ≡ byte_at s (from + 6) → mine ≡ own_before (program_of s r c) q k → new ≡ opens_by rel mine mark q → new ≡ opens (program_of s r c) q k
  opens-turn q {mark} {mine} em el en =
      en ∙ ap (λ (z : ℕ). opens_by z mine mark q) own
      ∙ ap (λ (z : Bool). opens_by (clause_at (program_of s r c) k).rel z mark q) el
      ∙ ap (λ (z : ℕ). opens_by (clause_at (program_of s r c) k).rel (own_before (program_of s r c) q k) z q) (mark-some s r c k h e em)
      ∙ sym (opens_by_lem (program_of s r c) q k)

  pub there-turn : (q b : ℕ) {count : ℕ} {next : ℕ} {there : Bool} → count ≡ tally (opens (program_of s r c) q) (k + 1) → next ≡ b + 1 → there ≡ (eqb rel q && eqb count next) → there ≡ in_block (program_of s r c) q b k
  there-turn q b {count} {next} ec en et =
      et ∙ ap (λ (z : ℕ). eqb z q && eqb count next) own
      ∙ ap (λ (z : ℕ). eqb (clause_at (program_of s r c) k).rel q && eqb z next) ec
      ∙ ap (λ (z : ℕ). eqb (clause_at (program_of s r c) k).rel q && eqb (tally (opens (program_of s r c) q) (k + 1)) z) en
      ∙ sym (in-block (program_of s r c) q b k)

-- ---- before the relation's first clause and after its last

module _ (pr : Program) (q k : ℕ) (early : Early pr q k) where
  pub own-start : false ≡ own_before pr q k
  own-start = by k early
    where
      by : (n : ℕ) → Early pr q n → false ≡ own_before pr q n
      by zero f = unfold own_before in refl
      by (suc n) f = unfold own_before in sym (f n (omega arith))

  pub count-start : 0 ≡ tally (opens pr q) k
  count-start = sym (tally-rest (opens pr q) 0 k (omega arith) (λ j _ l. opens-other pr q j (early j l)) ∙ unfold tally in refl)

  none-there : (b : ℕ) → those (in_block pr q b) k ≡ []
  none-there b = those-rest (in_block pr q b) 0 k (omega arith) (λ j _ l. block-other pr q b j (early j l)) ∙ unfold those in refl

  pub sized-start : (b : ℕ) → 0 ≡ length (those (in_block pr q b) k)
  sized-start b = sym (ap length (none-there b))

  pub clause-start : (b j : ℕ) → 255 ≡ get_or (those (in_block pr q b) k) j 255
  clause-start b j = sym (ap (λ (l : List ℕ). get_or l j 255) (none-there b))

module _ (s : List ℕ) (r c q k : ℕ) (h : k ≤ c) (behind : Behind (program_of s r c) q c k) where
  pub count-end : {x : ℕ} → x ≡ tally (opens (program_of s r c) q) k → x ≡ block_count (program_of s r c) q
  unfolding block_count
  count-end e = e ∙ sym (tally-rest (opens (program_of s r c) q) k c h (λ j a l. opens-other (program_of s r c) q j (behind j a l))) ∙ ap (tally (opens (program_of s r c) q)) (sym (clause-count s r c))

  all_there : (b : ℕ) → those (in_block (program_of s r c) q b) k ≡ block_of (program_of s r c) q b
  unfolding block_of
  all_there b = sym (those-rest (in_block (program_of s r c) q b) k c h (λ j a l. block-other (program_of s r c) q b j (behind j a l))) ∙ ap (those (in_block (program_of s r c) q b)) (sym (clause-count s r c))

  pub size-end : (b : ℕ) {x : ℕ} → x ≡ length (those (in_block (program_of s r c) q b) k) → x ≡ length (block_of (program_of s r c) q b)
  size-end b e = e ∙ ap length (all_there b)

  pub clause-end : (b j : ℕ) {x : ℕ} → x ≡ get_or (those (in_block (program_of s r c) q b) k) j 255 → x ≡ get_or (block_of (program_of s r c) q b) j 255
  clause-end b j e = e ∙ ap (λ (l : List ℕ). get_or l j 255) (all_there b)

-- further on than where it ends
pub behind_more : (pr : Program) (q c n k : ℕ) → n ≤ k → Behind pr q c n → Behind pr q c k
behind_more pr q c n k h f j a l = f j (omega arith) l
