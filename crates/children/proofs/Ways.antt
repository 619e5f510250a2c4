-- One law for each way through the code.
use Rattle.std.specs.Prelude.{Option}
use Rattle.std.specs.Bool.{then_some}
use mathlib.Core.Path.{◌≡◌, refl}
use mathlib.Core.Bool.{Bool, cond, false, true}
use mathlib.Core.List.{List}
use Prim.Native.Nat.{ℕ}
use lib.Dec.{eqb}
use borrow.Author.Tests.{ne_eqb}
use Rattle.children.proofs.Small.{says}
use Rattle.children.specs.Notes.{bad_note, found_by, good_note, heard_in, Noted, note_of, silent_bit}
use Rattle.children.specs.declared.Note.{Note}
use Rattle.parlog.specs.Codes.{failure, success}
use Rattle.parlog.specs.Tree.{bad, good, reports, silent}
use Rattle.parlog.specs.declared.Process.{Process}

-- ---- what a process tells its parent

module _ (x : Process) {m : ℕ} (em : m ≡ x.mode) where
  pub note-none : (m ≡ 4 → ⊥) → silent_bit ≡ note_of x
  unfolding note_of reports
  note-none h = rw (← em, ne_eqb m 4 h)

  module _ (h : m ≡ 4) {v : ℕ} (ev : v ≡ x.result) where
    pub note-good : v ≡ 1 → good_note ≡ note_of x
    unfolding note_of reports
    note-good e = rw (← em, ← ev, h, e)

    pub note-bad : v ≡ 2 → bad_note ≡ note_of x
    unfolding note_of reports
    note-bad e = rw (← em, ← ev, h, e)

    pub note-unknown : (v ≡ 1 → ⊥) → (v ≡ 2 → ⊥) → silent_bit ≡ note_of x
    unfolding note_of reports
    note-unknown a b = rw (← em, ← ev, h, ne_eqb v 1 a, ne_eqb v 2 b)

-- ---- what a note says of one process

heard-as : (a b : Bool) (c : ℕ) → cond a (good c) (cond b (bad c) silent) ≡ cond (eqb (says a b) good_note) (good c) (cond (eqb (says a b) bad_note) (bad c) silent)
heard-as true b c = refl
heard-as false true c = refl
heard-as false false c = refl

module _ (x : Process) (c : ℕ) {f : ℕ} (ef : f ≡ note_of x) where
  heard-by : heard_in x c ≡ cond (eqb f good_note) (good c) (cond (eqb f bad_note) (bad c) silent)
  unfolding note_of
  heard-by = rw ef (heard-as (reports success x) (reports failure x) c)

  pub heard-good : f ≡ good_note → good c ≡ heard_in x c
  heard-good e = rw (heard-by, e)

  pub heard-bad : (f ≡ good_note → ⊥) → f ≡ bad_note → bad c ≡ heard_in x c
  heard-bad a e = rw (heard-by, e)

  pub heard-silent : (f ≡ good_note → ⊥) → (f ≡ bad_note → ⊥) → silent ≡ heard_in x c
  heard-silent a b = rw (heard-by, ne_eqb f good_note a, ne_eqb f bad_note b)

-- ---- the pass

pub noted-end : (ps : List Process) (p q : ℕ) (x : Note) → q ≡ 0 → Noted ps p q x → Noted ps p 0 x
noted-end ps p q x e so = rw e at so

-- the lowest that succeeded, where there is one
pub found-is : (b : Bool) {c k : ℕ} {f : Option ℕ} → k ≡ c → f ≡ then_some b k → f ≡ found_by b c
found-is true ek e = rw (← ek) e
found-is false ek e = e
