-- From record to record, as the loop goes.
use Rattle.std.specs.Prelude.{Err, Ok}
use Rattle.parlog.specs.Answer.{Answer}
use mathlib.Core.Path.{◌∙◌, ◌≡◌, refl, sym}
use mathlib.Core.Bool.{Bool, cond, false, true}
use mathlib.Core.List.{List}
use Prim.Native.Nat.{◌+◌, ◌<◌, ◌≤◌, ℕ}
use lib.Dec.{eqb}
use lib.ListN.{length}
use borrow.Author.Tests.{eq-eqb, ne_eqb}
use native.Mathlib.Omega.{arith}
use Rattle.parlog.proofs.Bools.{split}
use Rattle.parlog.proofs.Walk.{walk-cut, walk_end, walk-one, whole}
use Rattle.parlog.specs.Load.{refusal}
use Rattle.parlog.specs.Records.{cut, kind_at, record_end, word_at}
use Rattle.saved.proofs.Faults.{long-is, Passes, passes}
use Rattle.saved.specs.Form.{length_of, process_kind, variable_kind}
use Rattle.saved.specs.Reading.{cut_at, fault_at, form_fault, kind_wrong, read_end, read_one, reads, read_saved, Seen, seen_with}

-- one more at most
seen-small : (g : Seen) (k : ℕ) (t : Seen) → t ≡ seen_with g k → (t.procs ≤ g.procs + 1) × (t.vars ≤ g.vars + 1)
seen-small g k t et = (rw et (split (eqb k process_kind) (λ e. rw e (omega arith)) (λ e. rw e (omega arith))), rw et (split (eqb k variable_kind) (λ e. rw e (omega arith)) (λ e. rw e (omega arith))))

module _ (s : List ℕ) (at : ℕ) (g : Seen) (more : at < length s) where
  pub goes : Passes s g.kind at → reads s (length s) at g ≡ reads s (length s) (record_end s at) (seen_with g (kind_at s at))
  goes p = rw (p.kind, p.form) at (walk-one s cut_at (read_one s) read_end (length s) at g (omega arith) more p.uncut)

  pub stops : {n : ℕ} → n ≡ fault_at s g.kind at → (n ≡ 0 → ⊥) → reads s (length s) at g ≡ Err (refusal n at)
  stops {n} e some = go (cut s at) refl (kind_wrong g.kind (kind_at s at)) refl (unfold fault_at in e)
    where
      whole : cut s at ≡ false → reads s (length s) at g ≡ read_one s (reads s (length s) (record_end s at)) at g
      whole eb = walk-one s cut_at (read_one s) read_end (length s) at g (omega arith) more eb

      go : (b : Bool) → cut s at ≡ b → (k : Bool) → kind_wrong g.kind (kind_at s at) ≡ k → n ≡ cond b 2 (cond k 3 (form_fault s at)) → reads s (length s) at g ≡ Err (refusal n at)
      go true eb k ek z = rw z (walk-cut s cut_at (read_one s) read_end (length s) at g (omega arith) more eb)
      go false eb true ek z = rw z (whole eb ∙ rw ek)
      go false eb false ek z = rw z (whole eb ∙ rw (ek, ne_eqb (form_fault s at) 0 (λ y. some (z ∙ y))))

  -- the loop's step: the length of the kind leads to the next record
  loop-goes : {k z : ℕ} {t : Seen} → 0 ≡ fault_at s g.kind at → k ≡ kind_at s at → t ≡ seen_with g k → z ≡ length_of k → reads s (length s) at g ≡ reads s (length s) (at + z) t
  loop-goes {k} {z} {t} e ek et ez =
      let p = passes s g.kind at (sym e) in
      let w : word_at s at ≡ z = long-is s at p.form ∙ sym (ez ∙ rw ek) in
      let x : t ≡ seen_with g (kind_at s at) = rw ek at et in
      goes p ∙ rw (w, x)

  pub loop-inside : {k z : ℕ} → 0 ≡ fault_at s g.kind at → k ≡ kind_at s at → z ≡ length_of k → (at + z ≤ length s) × (4 ≤ z)
  loop-inside {k} {z} e ek ez =
      let p = passes s g.kind at (sym e) in
      let w : word_at s at ≡ z = long-is s at p.form ∙ sym (ez ∙ rw ek) in
      let a = whole s at p.uncut in
      (omega arith, omega arith)

  -- the loop's step
  pub loop-step : {k z : ℕ} {t : Seen} → 0 ≡ fault_at s g.kind at → k ≡ kind_at s at → t ≡ seen_with g k → z ≡ length_of k → reads s (length s) at g ≡ read_saved s → g.procs ≤ at → g.vars ≤ at
      → (reads s (length s) (at + z) t ≡ read_saved s) × (t.procs ≤ at + z) × (t.vars ≤ at + z) × (at + z ≤ length s)
  loop-step {k} {z} {t} e ek et ez i p v =
      let a = loop-inside e ek ez in
      let b = seen-small g k t et in
      (sym (loop-goes e ek et ez) ∙ i, omega (arith, a.1, b.0), omega (arith, a.1, b.1), a.0)

pub ends : (s : List ℕ) (at : ℕ) (g : Seen) → length s ≤ at → reads s (length s) at g ≡ read_end g
ends s at g h = walk_end s cut_at (read_one s) read_end (length s) at g h

module _ (s : List ℕ) (at : ℕ) (g : Seen) (past : length s ≤ at) (i : reads s (length s) at g ≡ read_saved s) where
  pub end_none : g.kind ≡ 0 → {r : Answer (ℕ × ℕ)} → r ≡ Err (refusal 3 0) → r ≡ read_saved s
  end_none e q = q ∙ sym (ends s at g past ∙ rw (eq-eqb g.kind 0 e)) ∙ i

  pub end_whole : (g.kind ≡ 0 → ⊥) → Ok (g.procs, g.vars) ≡ read_saved s
  end_whole n = sym (ends s at g past ∙ rw (ne_eqb g.kind 0 n)) ∙ i
