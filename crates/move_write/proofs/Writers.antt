-- The ways through the writers.
use Rattle.parlog.specs.declared.Term.{Term}
use Rattle.std.specs.Prelude.{Option, None, Some}
use mathlib.Core.Path.{◌∙◌, ◌≡◌, ap, refl, sym}
use mathlib.Core.Bool.{◌&&◌, ◌||◌, Bool, false, true}
use mathlib.Core.List.{[], ◌++◌, ◌∷◌, append_assoc, append-nil, List}
use Prim.Native.Nat.{◌+◌, ◌<◌, ◌≤◌, ℕ}
use lib.Dec.{eqb}
use lib.ListN.{get_or, length, length-append, length-replicate, length-set, replicate, set, take}
use Rattle.std.proofs.lemmas.List.{length-take}
use Rattle.parlog.specs.declared.Term.TheVariants.{Const}
use lib.Seq.{get_or-take, get_or-set_other, get_or-set_same, set_out, take-suc}
use borrow.Author.Tests.{eqb-false, eqb-true}
use native.Mathlib.Omega.{arith}
use native.Mathlib.Numerals.{add-one}
use Rattle.parlog.proofs.Bools.{split}
use Rattle.parlog.proofs.Effects.{changed-length}
use Rattle.parlog.proofs.Rows.{build-is}
use Rattle.parlog.proofs.Unified.{changed-append}
use Rattle.parlog.specs.Codes.{dormant}
use Rattle.parlog.specs.Delta.{apply, asleep, Delta, is_at, row_after, with_mode}
use Rattle.parlog.specs.Scan.{build}
use Rattle.parlog.specs.Tables.{at, idle, process_at, procs_of, vars_in}
use Rattle.parlog.specs.Tree.{below}
use Rattle.parlog.specs.Unify.{change, changed}
use Rattle.parlog.specs.declared.Change.{Change}
use Rattle.parlog.specs.declared.Process.{Process}
use Rattle.move_plan.specs.Plans.{Binds, delta_of, state_in, Within}
use Rattle.move_write.specs.Writing.{cut_below, napped, procs_after, slept_at, vars_after}
use Rattle.move_plan.specs.declared.Plan.{Plan}
use Rattle.rows.proofs.Tables.{procs-at, procs-length, procs-none, procs-snoc, table-rows, table_same, table-then}
use Rattle.rows.specs.Rows.{Table}
use Rattle.tree.proofs.Passing.{slept-at, slept-length}
use Rattle.tree.specs.Family.{slept_below}
use Rattle.unify.specs.Pending.{pending}
use Rattle.unify.specs.declared.waiting.Changes.{Changes}
use Rattle.vars.proofs.Tables.{cells-rows, cells_same, cells-then, vars-length}
use Rattle.vars.specs.Cells.{Cells}

-- ---- rows that fall asleep

module _ (l : List ℕ) (n p : ℕ) where
  pub cut-none : {b : Bool} → b ≡ false → Table l l (cut_below b (procs_of l n) p)
  unfolding cut_below
  cut-none e = rw e (table_same l n)

  pub cut_all : {b : Bool} → b ≡ true → {m : List ℕ} → Table l m (slept_below (procs_of l n) p) → Table l m (cut_below b (procs_of l n) p)
  unfolding cut_below
  cut_all e t = rw e t

  pub sleep-none : n ≤ p → Table l l (slept_at (procs_of l n) p)
  unfolding slept_at
  sleep-none h = rw (set_out (procs_of l n) p (with_mode dormant (at (procs_of l n) p)) (omega (arith, procs-length l n))) (table_same l n)

  pub sleep-one : {x y : Process} → x ≡ at (procs_of l n) p → y ≡ with_mode dormant x → {m : List ℕ} → Table l m (set (procs_of l n) p y) → Table l m (slept_at (procs_of l n) p)
  unfolding slept_at
  sleep-one ex ey t = rw (← ex, ← ey) t

module _ (l : List ℕ) (n : ℕ) {f : Option ℕ} where
  pub nap-none : f ≡ None → Table l l (napped f (procs_of l n))
  unfolding napped
  nap-none e = rw e (table_same l n)

  pub nap-one : {c : ℕ} → f ≡ Some c → {m : List ℕ} → Table l m (slept_at (procs_of l n) c) → Table l m (napped f (procs_of l n))
  unfolding napped
  nap-one e t = rw e t

pub cut-length : (b : Bool) (ps : List Process) (p : ℕ) → length (cut_below b ps p) ≡ length ps
unfolding cut_below
cut-length true ps p = slept-length ps p
cut-length false ps p = refl

pub nap-length : (f : Option ℕ) (ps : List Process) → length (napped f ps) ≡ length ps
unfolding napped slept_at
nap-length None ps = refl
nap-length (Some c) ps = length-set ps c (with_mode dormant (at ps c))

cut_at : (b : Bool) (ps : List Process) (p i : ℕ) → i < length ps → at (cut_below b ps p) i ≡ asleep (b && below ps p i) (at ps i)
unfolding cut_below
cut_at true ps p i h = slept-at ps p i h
cut_at false ps p i h = refl

nap-at : (f : Option ℕ) (ps : List Process) (i : ℕ) → i < length ps → at (napped f ps) i ≡ asleep (is_at f i) (at ps i)
unfolding napped slept_at
nap-at None ps i h = refl
nap-at (Some c) ps i h = split (eqb i c)
    (λ e. let z : i ≡ c = eqb-true i c e in rw e (rw z (get_or-set_same ps c (with_mode dormant (at ps c)) idle (omega arith))))
    (λ e. rw e (get_or-set_other ps c i (with_mode dormant (at ps c)) idle (eqb-false i c e)))

asleep-twice : (a b : Bool) (x : Process) → asleep b (asleep a x) ≡ asleep (a || b) x
unfolding with_mode
asleep-twice true true x = refl
asleep-twice true false x = refl
asleep-twice false true x = refl
asleep-twice false false x = refl

-- the writers' order comes to the one change of the rules
module _ (ps : List Process) (p : ℕ) (d : Delta) (lt : p < length ps) where
  abbrev slow : List Process
  slow = napped d.nap (cut_below d.cut ps p)

  slow-length : length slow ≡ length ps
  slow-length = nap-length d.nap (cut_below d.cut ps p) ∙ cut-length d.cut ps p

  slow-at : (i : ℕ) → i < length ps → at slow i ≡ asleep ((d.cut && below ps p i) || is_at d.nap i) (at ps i)
  slow-at i h =
      nap-at d.nap (cut_below d.cut ps p) i (omega (arith, cut-length d.cut ps p))
      ∙ ap (asleep (is_at d.nap i)) (cut_at d.cut ps p i h)
      ∙ asleep-twice (d.cut && below ps p i) (is_at d.nap i) (at ps i)

  row_is : (i : ℕ) → i < length ps → row_after ps p d i ≡ at (set slow p d.me) i
  unfolding row_after
  row_is i h = split (eqb i p)
      (λ e. let z : i ≡ p = eqb-true i p e in rw e (rw z (sym (get_or-set_same slow p d.me idle (omega (arith, slow-length))))))
      (λ e. rw e (sym (get_or-set_other slow p i d.me idle (eqb-false i p e) ∙ slow-at i h)))

  pub rows_are : set (napped d.nap (cut_below d.cut ps p)) p d.me ≡ build (row_after ps p d) (length ps)
  rows_are =
      let k : length (set slow p d.me) ≡ length ps = length-set slow p d.me ∙ slow-length in
      sym (rw k at (build-is (row_after ps p d) idle (set slow p d.me) (λ i h. row_is i (omega arith))))

-- ---- rows more

pub all_start : (l rows : List ℕ) (n : ℕ) → Table l l (procs_of l n ++ procs_of rows 0)
all_start l rows n = rw (procs-none rows, append-nil) (table_same l n)

module _ (l m rows : List ℕ) (n k i : ℕ) (h : i < k) (t : Table l m (procs_of l n ++ procs_of rows i)) where
  len : length (procs_of l n ++ procs_of rows i) ≡ n + i
  len = length-append (procs_of l n) (procs_of rows i) ∙ omega (arith, procs-length l n, procs-length rows i)

  pub all-next : {x : Process} → x ≡ at (procs_of rows k) i → {m' : List ℕ} → Table m m' (procs_of m (n + i) ++ (x ∷ [])) → Table l m' (procs_of l n ++ procs_of rows (i + 1))
  all-next {x} ex {m'} w =
      let e : procs_of m (n + i) ≡ procs_of l n ++ procs_of rows i = table-rows (n + i) t len in
      let y : x ≡ process_at rows i = ex ∙ procs-at rows k i h in
      let z : procs_of m (n + i) ++ (x ∷ []) ≡ procs_of l n ++ procs_of rows (i + 1) = rw (e, y, add-one i, procs-snoc rows i) (append_assoc (procs_of l n) (procs_of rows i) (process_at rows i ∷ [])) in
      rw (← z) (table-then t w (omega (arith, len, length-append (procs_of m (n + i)) (x ∷ []), procs-length m (n + i))))

pub all_end : (l m rows : List ℕ) (n k i : ℕ) → Table l m (procs_of l n ++ procs_of rows i) → i ≡ k → Table l m (procs_of l n ++ procs_of rows k)
all_end l m rows n k i t e = rw (← e) t

-- ---- the process table

pub procs-done : (l l1 l2 l3 l4 : List ℕ) (n p : ℕ) (pl : Plan) → p < n
    → Table l l1 (cut_below pl.cut (procs_of l n) p) → Table l1 l2 (napped pl.nap (procs_of l1 n)) → Table l2 l3 (set (procs_of l2 n) p pl.me) → Table l3 l4 (procs_of l3 n ++ procs_of pl.rows pl.count)
    → Table l l4 (procs_after (procs_of l n) p (delta_of pl))
unfolding procs_after delta_of
procs-done l l1 l2 l3 l4 n p pl lt t1 t2 t3 t4 =
    let e1 : procs_of l1 n ≡ cut_below pl.cut (procs_of l n) p = table-rows n t1 (cut-length pl.cut (procs_of l n) p ∙ procs-length l n) in
    let e2 : procs_of l2 n ≡ napped pl.nap (procs_of l1 n) = table-rows n t2 (nap-length pl.nap (procs_of l1 n) ∙ procs-length l1 n) in
    let e3 : procs_of l3 n ≡ set (procs_of l2 n) p pl.me = table-rows n t3 (length-set (procs_of l2 n) p pl.me ∙ procs-length l2 n) in
    let a : Table l l2 (napped pl.nap (procs_of l1 n)) = table-then t1 t2 (omega (arith, cut-length pl.cut (procs_of l n) p, nap-length pl.nap (procs_of l1 n), procs-length l n, procs-length l1 n)) in
    let b : Table l l3 (set (procs_of l2 n) p pl.me) = table-then a t3 (omega (arith, nap-length pl.nap (procs_of l1 n), procs-length l1 n, length-set (procs_of l2 n) p pl.me, procs-length l2 n)) in
    let c : Table l l4 (procs_of l3 n ++ procs_of pl.rows pl.count) = table-then b t4 (omega (arith, length-set (procs_of l2 n) p pl.me, procs-length l2 n, length-append (procs_of l3 n) (procs_of pl.rows pl.count), procs-length l3 n)) in
    let r = rows_are (procs_of l n) p (delta_of pl) (omega (arith, procs-length l n)) in
    let s : procs_of l3 n ≡ build (row_after (procs_of l n) p (delta_of pl)) (length (procs_of l n)) =
    e3 ∙ ap (λ (z : List Process). set z p pl.me) (e2 ∙ ap (napped pl.nap) e1) ∙ r in
    rw s at c

-- ---- the variable table

pub bind-start : (l : List ℕ) (m : ℕ) (cs : List Change) → Cells m l l (changed (vars_in l m) (take 0 cs))
unfolding changed
bind-start l m cs = cells_same l m

module _ (l l1 : List ℕ) (m : ℕ) (cs : List Change) (i : ℕ) (h : i < length cs) (t : Cells m l l1 (changed (vars_in l m) (take i cs))) where
  so_far : length (changed (vars_in l m) (take i cs)) ≡ m
  so_far = changed-length (vars_in l m) (take i cs) ∙ vars-length l m

  one_more : (c d : Change) → get_or cs i d ≡ c → changed (vars_in l m) (take (i + 1) cs) ≡ set (changed (vars_in l m) (take i cs)) c.var (Some c.to)
  unfolding changed
  one_more c d e =
      ap (changed (vars_in l m)) (ap (λ (k : ℕ). take k cs) (add-one i) ∙ take-suc cs i d h)
      ∙ changed-append (vars_in l m) (take i cs) (get_or cs i d ∷ [])
      ∙ rw e

  pub bind-next : (c d : Change) → get_or cs i d ≡ c → {v : ℕ} → v ≡ c.var → {l2 : List ℕ} → Cells m l1 l2 (set (vars_in l1 m) v (Some c.to)) → Cells m l l2 (changed (vars_in l m) (take (i + 1) cs))
  bind-next c d e {v} ev {l2} w =
      let r : vars_in l1 m ≡ changed (vars_in l m) (take i cs) = cells-rows m t so_far in
      let s : set (vars_in l1 m) v (Some c.to) ≡ changed (vars_in l m) (take (i + 1) cs) =
      rw (r, ev) (sym (one_more c d e)) in
      let w' : Cells (length (changed (vars_in l m) (take i cs))) l1 l2 (changed (vars_in l m) (take (i + 1) cs)) = rw so_far (rw s at w) in
      cells-then t w' (omega (arith, so_far, changed-length (vars_in l m) (take (i + 1) cs), vars-length l m))

-- each of those that wait can be bound
pub within-made : (m : ℕ) (cs : Changes) → Within m cs.count cs.list → (i : ℕ) → i < length (pending cs) → Binds m (get_or (pending cs) i (change 0 (Const 0)))
unfolding pending
within-made m cs w i h =
    let l : i < cs.count = omega (arith, length-take cs.count cs.list) in
    rw (get_or-take cs.count cs.list i (change 0 (Const 0)) l) (w i l)

pub vars-done : (l l1 l2 : List ℕ) (m : ℕ) (pl : Plan)
    → Cells m l l1 (vars_in l m ++ replicate pl.fresh None)
    → Cells (m + pl.fresh) l1 l2 (changed (vars_in l1 (m + pl.fresh)) (pending pl.changes))
    → Cells m l l2 (vars_after (vars_in l m) (delta_of pl))
unfolding vars_after delta_of
vars-done l l1 l2 m pl a b =
    let k : length (vars_in l m ++ replicate pl.fresh None) ≡ m + pl.fresh =
    length-append (vars_in l m) (replicate pl.fresh None) ∙ omega (arith, vars-length l m, length-replicate {A = Option Term} pl.fresh None) in
    let e : vars_in l1 (m + pl.fresh) ≡ vars_in l m ++ replicate pl.fresh None = cells-rows (m + pl.fresh) a k in
    let j : length (changed (vars_in l m ++ replicate pl.fresh None) (pending pl.changes)) ≡ m + pl.fresh =
    changed-length (vars_in l m ++ replicate pl.fresh None) (pending pl.changes) ∙ k in
    cells-then a (rw k (rw e at b)) (omega (arith, k, j))

-- ---- both tables

module _ (l v : List ℕ) (n m p : ℕ) (d : Delta) where
  pub applied-procs : {k : List ℕ} → Table l k (procs_after (procs_of l n) p d) → Table l k (apply (state_in l n v m) p d).procs
  unfolding procs_after apply
  applied-procs t = t

  pub applied-vars : {k : List ℕ} → Cells m v k (vars_after (vars_in v m) d) → Cells m v k (apply (state_in l n v m) p d).vars
  unfolding vars_after apply
  applied-vars t = t

-- nothing waits to be bound
pub within_none : (m k : ℕ) (cs : List Change) → k ≡ 0 → Within m k cs
within_none m k cs e i h = absurd (omega arith)
