-- Putting all below a process to sleep: one law for each way through the code.
use mathlib.Core.Path.{◌∙◌, ◌≡◌, ap, refl, sym}
use mathlib.Core.Bool.{◌&&◌, ◌||◌, Bool, false, not, true}
use mathlib.Core.List.{List}
use Prim.Native.Nat.{◌+◌, ◌<◌, ◌≤◌, suc, zero, ℕ}
use lib.Dec.{eqb, ltb}
use lib.ListN.{length, length-set, set}
use lib.Seq.{set-get_or}
use borrow.Author.Tests.{le-ltb, lt-ltb, ltb-false, ltb-true}
use native.Mathlib.Omega.{arith}
use Rattle.parlog.proofs.Bools.{split}
use Rattle.parlog.proofs.Fine.{asleep-parent}
use Rattle.parlog.proofs.Rows.{build-cong, build-is, build-set}
use Rattle.parlog.proofs.Scans.{build-at, build-length}
use Rattle.parlog.specs.Codes.{dormant}
use Rattle.parlog.specs.Delta.{asleep, with_mode}
use Rattle.parlog.specs.Scan.{build}
use Rattle.parlog.specs.Tables.{at, idle, procs_of}
use Rattle.parlog.specs.Tree.{below, climb}
use Rattle.parlog.specs.declared.Process.{Process}
use Rattle.rows.proofs.Tables.{procs-length, procs-past, table-rows, table_same, table-then}
use Rattle.rows.specs.Rows.{Table}
use Rattle.tree.proofs.Family.{below_none}
use Rattle.tree.specs.Family.{Childless, Falls, Marks, slept, slept_below}

-- what sleeps already stays as it is
asleep-still : (b : Bool) (x : Process) → x.mode ≡ 0 → asleep b x ≡ x
unfolding with_mode
asleep-still true x e = λ i. record { tag = x.tag; mode = sym e i; result = x.result; count = x.count; parent = x.parent; spot = x.spot; notes = x.notes }
asleep-still false x e = refl

-- ---- one row

module _ (l : List ℕ) (n p q : ℕ) where
  kept : slept (procs_of l n) p q ≡ at (procs_of l n) q → Table l l (set (procs_of l n) q (slept (procs_of l n) p q))
  kept e = rw (e, set-get_or (procs_of l n) q idle) (table_same l n)

  pub sleep-still : {m : ℕ} → m ≡ (at (procs_of l n) q).mode → m ≡ 0 → Table l l (set (procs_of l n) q (slept (procs_of l n) p q))
  sleep-still em z = kept (unfold slept in asleep-still (below (procs_of l n) p q) (at (procs_of l n) q) (sym em ∙ z))

  module _ {b : Bool} (e : b ≡ below (procs_of l n) p q) where
    pub sleep-not : b ≡ false → Table l l (set (procs_of l n) q (slept (procs_of l n) p q))
    sleep-not h = kept (unfold slept in rw (← e, h))

    pub sleep-now : b ≡ true → {x y : Process} → x ≡ at (procs_of l n) q → y ≡ with_mode dormant x → {m : List ℕ} → Table l m (set (procs_of l n) q y)
        → Table l m (set (procs_of l n) q (slept (procs_of l n) p q))
    sleep-now h {x} {y} ex ey t =
        let s : y ≡ slept (procs_of l n) p q = unfold slept in rw (← e, h) (ey ∙ ap (with_mode dormant) ex) in
        rw s at t

-- ---- where the parents are the same, the same processes are below

climb-cong : (ps qs : List Process) (p f a : ℕ) → ((j : ℕ) → (at qs j).parent ≡ (at ps j).parent) → climb f qs p a ≡ climb f ps p a
unfolding climb
climb-cong ps qs p zero a h = refl
climb-cong ps qs p (suc f) a h = rw (h a) (ap (λ (z : Bool). not (eqb a 0) && (eqb (at ps a).parent p || z)) (climb-cong ps qs p f (at ps a).parent h))

below-cong : (ps qs : List Process) (p a : ℕ) → length qs ≡ length ps → ((j : ℕ) → (at qs j).parent ≡ (at ps j).parent) → below qs p a ≡ below ps p a
unfolding below
below-cong ps qs p a e h = rw e (climb-cong ps qs p (length ps) a h)

-- ---- the loop: process i once the rows before q were passed

unfoldable pub passed : List Process → ℕ → ℕ → ℕ → Process
passed ps p q i = asleep (ltb i q && below ps p i) (at ps i)

passed-parent : (ps : List Process) (p q i : ℕ) → (passed ps p q i).parent ≡ (at ps i).parent
unfolding passed
passed-parent ps p q i = asleep-parent (ltb i q && below ps p i) (at ps i)

passed-yet : (ps : List Process) (p q i : ℕ) → q ≤ i → passed ps p q i ≡ at ps i
unfolding passed
passed-yet ps p q i h = rw (le-ltb i q h)

passed-now : (ps : List Process) (p q i : ℕ) → i < q → passed ps p q i ≡ slept ps p i
unfolding passed slept
passed-now ps p q i h = rw (lt-ltb i q h)

passed-other : (ps : List Process) (p q j : ℕ) → (j ≡ q → ⊥) → passed ps p (q + 1) j ≡ passed ps p q j
passed-other ps p q j ne =
    split (ltb j q) (λ e. let h : j < q = ltb-true j q e in passed-now ps p (q + 1) j (omega arith) ∙ sym (passed-now ps p q j h))
    (λ e. let h : q ≤ j = ltb-false j q e in passed-yet ps p (q + 1) j (omega (arith, ne)) ∙ sym (passed-yet ps p q j h))

pub pass-start : (l : List ℕ) (n p q : ℕ) → Falls (procs_of l n) → Childless (procs_of l n) p q → Table l l (build (passed (procs_of l n) p q) n)
pass-start l n p q falls free =
    let e : build (passed (procs_of l n) p q) n ≡ procs_of l n =
    rw (procs-length l n) at (build-is (passed (procs_of l n) p q) idle (procs_of l n) (λ i u. first i (omega (arith, procs-length l n)))) in
    rw e (table_same l n)
  where
    first : (i : ℕ) → i < n → passed (procs_of l n) p q i ≡ at (procs_of l n) i
    first i u = split (ltb i q)
        (λ e. let v : i < q = ltb-true i q e in passed-now (procs_of l n) p q i v ∙ unfold slept in rw (below_none (procs_of l n) falls p q i free (omega (arith, procs-length l n)) v))
        (λ e. passed-yet (procs_of l n) p q i (ltb-false i q e))

pub pass-end : (l m : List ℕ) (n p q : ℕ) → Table l m (build (passed (procs_of l n) p q) n) → q ≡ n → Table l m (slept_below (procs_of l n) p)
unfolding slept_below
pass-end l m n p q t z =
    let e : build (passed (procs_of l n) p q) n ≡ build (slept (procs_of l n) p) n =
    build-cong (passed (procs_of l n) p q) (slept (procs_of l n) p) n (λ i h. passed-now (procs_of l n) p q i (omega arith)) in
    rw procs-length (rw e at t)

module _ (l m : List ℕ) (n p q : ℕ) (lt : q < n) (t : Table l m (build (passed (procs_of l n) p q) n)) where
  now : procs_of m n ≡ build (passed (procs_of l n) p q) n
  now = table-rows n t (build-length (passed (procs_of l n) p q) n)

  parents : (j : ℕ) → (at (procs_of m n) j).parent ≡ (at (procs_of l n) j).parent
  parents j = split (ltb j n)
      (λ e. rw (now, build-at (passed (procs_of l n) p q) n j idle (ltb-true j n e)) (passed-parent (procs_of l n) p q j))
      (λ e. rw (procs-past m n j (ltb-false j n e), procs-past l n j (ltb-false j n e)))

  -- the parents are those that they were
  pub falls-still : Falls (procs_of l n) → Falls (procs_of m n)
  falls-still falls i h ne = rw (parents i) (falls i (omega (arith, h, procs-length m n, procs-length l n)) ne)

  same-below : (a : ℕ) → below (procs_of m n) p a ≡ below (procs_of l n) p a
  same-below a = below-cong (procs_of l n) (procs_of m n) p a (procs-length m n ∙ sym (procs-length l n)) parents

  -- so the marks say the same of both tables
  pub marks-now : (ms : List ℕ) → Marks (procs_of l n) p q ms → Marks (procs_of m n) p q ms
  unfolding Marks
  marks-now ms marks k = rw (same-below k) (marks k)

  pub marks_then : (ms : List ℕ) → Marks (procs_of m n) p (q + 1) ms → Marks (procs_of l n) p (q + 1) ms
  unfolding Marks
  marks_then ms marks k = rw (← same-below k) (marks k)

  same_row : at (procs_of m n) q ≡ at (procs_of l n) q
  same_row = rw (now, build-at (passed (procs_of l n) p q) n q idle lt) (passed-yet (procs_of l n) p q q (omega arith))

  same-slept : slept (procs_of m n) p q ≡ slept (procs_of l n) p q
  unfolding slept
  same-slept = rw (same-below q, same_row)

  pub pass-next : {k : List ℕ} → Table m k (set (procs_of m n) q (slept (procs_of m n) p q)) → Table l k (build (passed (procs_of l n) p (q + 1)) n)
  pass-next {k} w =
      let j : passed (procs_of l n) p (q + 1) q ≡ slept (procs_of m n) p q = passed-now (procs_of l n) p (q + 1) q (omega arith) ∙ sym same-slept in
      let s : build (passed (procs_of l n) p (q + 1)) n ≡ set (procs_of m n) q (slept (procs_of m n) p q) =
      build-set (passed (procs_of l n) p (q + 1)) (passed (procs_of l n) p q) n q (slept (procs_of m n) p q) lt j (λ z u ne. passed-other (procs_of l n) p q z ne)
      ∙ ap (λ (z : List Process). set z q (slept (procs_of m n) p q)) (sym now) in
      rw s (table-then t w (omega (arith, build-length (passed (procs_of l n) p q) n, length-set (procs_of m n) q (slept (procs_of m n) p q), procs-length m n)))

-- how long the list is
pub slept-length : (ps : List Process) (p : ℕ) → length (slept_below ps p) ≡ length ps
unfolding slept_below
slept-length ps p = build-length (slept ps p) (length ps)

pub slept-at : (ps : List Process) (p i : ℕ) → i < length ps → at (slept_below ps p) i ≡ asleep (below ps p i) (at ps i)
unfolding slept_below slept
slept-at ps p i h = build-at (slept ps p) (length ps) i idle h
