-- The one change of the tables is what the relation says of it, and nothing else is.
use Rattle.parlog.specs.declared.Term.{Term}
use Rattle.std.specs.Prelude.{Option, None}
use mathlib.Core.Path.{◌∙◌, ◌≡◌, ap, refl, sym}
use mathlib.Core.Logic.{◌≢◌}
use mathlib.Core.Bool.{◌&&◌, ◌||◌, Bool, false, true}
use mathlib.Core.List.{◌++◌, List}
use Prim.Native.Nat.{◌+◌, ◌-◌, ◌<◌, ◌≤◌, ℕ}
use lib.Dec.{eqb, ltb}
use lib.ListN.{get_or, length, length-append, length-replicate, get_or-append, replicate}
use lib.Seq.{ext_get_or, get_or-append-add}
use borrow.Author.Tests.{eq-eqb, eqb-false, eqb-true, ltb-false, ltb-true, ne_eqb}
use native.Mathlib.Omega.{arith}
use Rattle.std.proofs.lemmas.Bool.{false_from_ne_true}
use Rattle.parlog.proofs.Bools.{split}
use Rattle.parlog.proofs.Changing.{changed-is, changed-only}
use Rattle.parlog.proofs.Scans.{build-at, build-length}
use Rattle.parlog.specs.Delta.{apply, asleep, Delta, is_at, row_after}
use Rattle.parlog.specs.Notions.{After, me}
use Rattle.parlog.specs.Scan.{build}
use Rattle.parlog.specs.Tables.{at, idle, State}
use Rattle.parlog.specs.Tree.{below}
use Rattle.parlog.specs.Unify.{changed}
use Rattle.parlog.specs.declared.Change.{Change}

abbrev pub sleeps_in : State → ℕ → Delta → ℕ → Bool
sleeps_in s p d i = (d.cut && below s.procs p i) || is_at d.nap i

-- the test and the notion of who falls asleep agree
pub record Agrees (s : State) (p : ℕ) (d : Delta) (Sleeps : ℕ → Type 0) : Type 0 where
  pub sleeps : (i : ℕ) → i < length s.procs → sleeps_in s p d i ≡ true → Sleeps i
  pub stays : (i : ℕ) → i < length s.procs → sleeps_in s p d i ≡ false → Sleeps i → ⊥

pub changed-length : (vs : List (Option Term)) (cs : List Change) → length (changed vs cs) ≡ length vs
changed-length vs cs = (changed-is vs cs).count

module _ (s : State) (p : ℕ) (d : Delta) where
  pub apply-count : length (apply s p d).procs ≡ length s.procs + length d.new
  unfolding apply
  apply-count = length-append (build (row_after s.procs p d) (length s.procs)) d.new ∙ rw (build-length (row_after s.procs p d) (length s.procs))

  pub apply-vars : length (apply s p d).vars ≡ length s.vars + d.fresh
  unfolding apply
  apply-vars = changed-length (s.vars ++ replicate d.fresh None) d.changes ∙ simp (length-append, length-replicate)

  pub apply-row : (i : ℕ) → i < length s.procs → me (apply s p d) i ≡ row_after s.procs p d i
  unfolding apply
  apply-row i h =
      let l = build-length (row_after s.procs p d) (length s.procs) in
      get_or-append (build (row_after s.procs p d) (length s.procs)) d.new idle i (omega (arith, l)) ∙ build-at (row_after s.procs p d) (length s.procs) i idle h

  pub apply-new : (j : ℕ) → me (apply s p d) (length s.procs + j) ≡ at d.new j
  unfolding apply
  apply-new j =
      ap (λ k. get_or (build (row_after s.procs p d) (length s.procs) ++ d.new) (k + j) idle) (sym (build-length (row_after s.procs p d) (length s.procs)))
      ∙ get_or-append-add (build (row_after s.procs p d) (length s.procs)) d.new j idle

  pub apply-mover : p < length s.procs → me (apply s p d) p ≡ d.me
  unfolding row_after
  apply-mover h = apply-row p h ∙ rw (eq-eqb p p refl)

  pub apply-other : (i : ℕ) → i < length s.procs → i ≢ p → me (apply s p d) i ≡ asleep (sleeps_in s p d i) (me s i)
  unfolding row_after
  apply-other i h q = apply-row i h ∙ rw (ne_eqb i p q)

  module _ (Sleeps : ℕ → Type 0) (low : p < length s.procs) (a : Agrees s p d Sleeps) where
    kept_by : (i : ℕ) → i < length s.procs → i ≢ p → (Sleeps i → ⊥) → sleeps_in s p d i ≡ false
    kept_by i h q n = false_from_ne_true (sleeps_in s p d i) (λ e. n (a.sleeps i h e))

    slept-by : (i : ℕ) → i < length s.procs → Sleeps i → sleeps_in s p d i ≡ true
    slept-by i h z = split (sleeps_in s p d i) (λ e. e) (λ e. absurd (a.stays i h e z))

    pub after-apply : After s p d.me Sleeps d.new d.changes d.fresh (apply s p d)
    unfolding apply
    after-apply = record {
      count = apply-count;
      mover = apply-mover low;
      slept = λ i h q z. apply-other i h q ∙ rw (slept-by i h z);
      kept = λ i h q n. apply-other i h q ∙ rw (kept_by i h q n);
      created = λ j h. apply-new j;
      bindings = changed-is (s.vars ++ replicate d.fresh None) d.changes;
    }

    module _ (s' : State) (r : After s p d.me Sleeps d.new d.changes d.fresh s') where
      same_old : (i : ℕ) → i < length s.procs → me s' i ≡ me (apply s p d) i
      same_old i h = split (eqb i p)
          (λ e. let z : i ≡ p = eqb-true i p e in rw z (r.mover ∙ sym (apply-mover low)))
          (λ e. let q : i ≢ p = eqb-false i p e in split (sleeps_in s p d i)
          (λ w. r.slept i h q (a.sleeps i h w) ∙ sym (apply-other i h q ∙ rw w))
          (λ w. r.kept i h q (a.stays i h w) ∙ sym (apply-other i h q ∙ rw w)))

      same_new : (i : ℕ) → length s.procs ≤ i → i < length s'.procs → me s' i ≡ me (apply s p d) i
      same_new i h l =
          let j : ℕ = i - length s.procs in
          let z : i ≡ length s.procs + j = omega arith in
          let c = r.count in
          rw z (r.created j (omega arith) ∙ sym (apply-new j))

      same_rows : s'.procs ≡ (apply s p d).procs
      same_rows = ext_get_or idle s'.procs (apply s p d).procs (r.count ∙ sym apply-count)
          (λ i l. split (ltb i (length s.procs)) (λ e. same_old i (ltb-true i (length s.procs) e)) (λ e. same_new i (ltb-false i (length s.procs) e) l))

      same-vars : s'.vars ≡ (apply s p d).vars
      unfolding apply
      same-vars = changed-only r.bindings

      pub after-only : s' ≡ apply s p d
      after-only = λ i. record { procs = same_rows i; vars = same-vars i }
