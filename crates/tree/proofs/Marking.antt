-- The marks of the pass: one law for each way through the code.
use mathlib.Core.Path.{◌∙◌, ◌≡◌, refl, sym}
use mathlib.Core.Bool.{◌||◌, Bool, false, not, true}
use mathlib.Core.List.{List}
use Prim.Native.Nat.{◌+◌, ◌<◌, ◌≤◌, suc, zero, ℕ}
use lib.Dec.{eqb, ltb}
use lib.ListN.{get_or, length, replicate, set}
use lib.Seq.{get_or-set_other, get_or-set_same}
use borrow.Author.Tests.{eq-eqb, eqb-false, eqb-true, le-ltb, lt-ltb, ltb-false, ltb-true, ne_eqb}
use native.Mathlib.Omega.{arith}
use Rattle.parlog.proofs.Bools.{split}
use Rattle.parlog.specs.Tables.{at, procs_of}
use Rattle.parlog.specs.Tree.{below}
use Rattle.parlog.specs.declared.Process.{Process}
use Rattle.rows.proofs.Tables.{procs-length}
use Rattle.tree.proofs.Family.{below_none, below_up}
use Rattle.tree.specs.Family.{Childless, Falls, Marks}

-- ---- the mark of the parent says it

module _ (l : List ℕ) (n p q : ℕ) (falls : Falls (procs_of l n)) (there : q < n) (behind : p < q) {up : ℕ} (e : up ≡ (at (procs_of l n) q).parent) where
  pub parent-before : up < q
  parent-before = let v : (at (procs_of l n) q).parent < q = falls q (omega (arith, procs-length l n)) (λ z. omega (arith, z)) in omega arith

  one_up : below (procs_of l n) p q ≡ (eqb up p || below (procs_of l n) p up)
  one_up = rw e (below_up (procs_of l n) falls p q (omega (arith, procs-length l n)) behind)

  pub child-is : up ≡ p → true ≡ below (procs_of l n) p q
  child-is z = sym (one_up ∙ rw (eq-eqb up p z))

  pub mark-says : (ms : List ℕ) → Marks (procs_of l n) p q ms → (up ≡ p → ⊥) → not (eqb (get_or ms up 0) 0) ≡ below (procs_of l n) p q
  unfolding Marks
  mark-says ms marks ne = marks up ∙ rw (lt-ltb up q parent-before) (sym (one_up ∙ rw (ne_eqb up p ne)))

-- ---- a row more

zero-mark : (n k : ℕ) → get_or {A = ℕ} (replicate n 0) k 0 ≡ 0
zero-mark zero k = refl
zero-mark (suc n) zero = refl
zero-mark (suc n) (suc k) = zero-mark n k

-- nothing before the first child is below p, and nothing is marked
pub marks-start : (ps : List Process) (p q n : ℕ) → Falls ps → Childless ps p q → q ≤ length ps → Marks ps p q (replicate n 0)
unfolding Marks
marks-start ps p q n falls free h k = rw (zero-mark n k) (sym (split (ltb k q)
    (λ e. let v : k < q = ltb-true k q e in rw e (below_none ps falls p q k free (omega arith) v))
    (λ e. rw e)))

ltb_next : (k q : ℕ) → (k ≡ q → ⊥) → ltb k (q + 1) ≡ ltb k q
ltb_next k q ne = split (ltb k q)
    (λ e. let v : k < q = ltb-true k q e in lt-ltb k (q + 1) (omega arith) ∙ sym e)
    (λ e. let v : q ≤ k = ltb-false k q e in le-ltb k (q + 1) (omega (arith, ne)) ∙ sym e)

module _ (ps : List Process) (p q : ℕ) (ms : List ℕ) (marks : Marks ps p q ms) {b : Bool} (says : b ≡ below ps p q) where
  pub marks-skip : b ≡ false → Marks ps p (q + 1) ms
  unfolding Marks
  marks-skip h k = split (eqb k q)
      (λ e. let z : k ≡ q = eqb-true k q e in rw z (marks q ∙ rw (← says, h, le-ltb q q (omega arith), lt-ltb q (q + 1) (omega arith))))
      (λ e. marks k ∙ rw (ltb_next k q (eqb-false k q e)))

  pub marks-more : b ≡ true → (v : ℕ) → (v ≡ 0 → ⊥) → q < length ms → Marks ps p (q + 1) (set ms q v)
  unfolding Marks
  marks-more h v ne there k = split (eqb k q)
      (λ e. let z : k ≡ q = eqb-true k q e in rw (z, get_or-set_same ms q v 0 there, ne_eqb v 0 ne, lt-ltb q (q + 1) (omega arith), ← says, h))
      (λ e. let d = eqb-false k q e in rw (get_or-set_other ms q k v 0 d) (marks k ∙ rw (ltb_next k q d)))
