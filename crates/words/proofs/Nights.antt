-- A save fits into a word, and an offset is told.
use Rattle.parlog.specs.Answer.{Answer}
use Rattle.std.specs.Prelude.{Err, Ok}
use mathlib.Core.Path.{◌≡◌}
use mathlib.Core.Bool.{Bool, false, true}
use mathlib.Core.List.{List}
use Prim.Native.Nat.{◌≤◌, min, ℕ}
use lib.Dec.{ltb}
use lib.ListN.{length}
use borrow.Author.Tests.{le-ltb, ltb-false, ltb-true}
use native.Mathlib.Omega.{arith}
use Rattle.parlog.proofs.Bools.{split}
use Rattle.parlog.specs.Calls.{enter, entered, Entry, turned_away}
use Rattle.parlog.specs.Limits.{Limits}
use Rattle.parlog.specs.Load.{load_of}
use Rattle.parlog.specs.Tables.{Lent}
use Rattle.parlog.specs.declared.Refusal.{Refusal}
use Rattle.resume.specs.Calls.{save_by, save_call, save_entry}
use Rattle.resume.specs.Says.{StoredFew}
use Rattle.saved.specs.Form.{saved_bytes}
use Rattle.words.proofs.Fitting.{enter-within, EntryWithin, load_fits}
use Rattle.words.specs.Fits.{RefusalFits}
use Rattle.words.specs.Nights.{SaveFits, told_offset, told_refusal}

-- a number as it can be told
pub told-min : (n : ℕ) → min n 4294967295 ≡ told_offset n
told-min n = split (ltb 4294967295 n)
    (λ e. let h = ltb-true 4294967295 n e in rw e (omega arith))
    (λ e. let h = ltb-false 4294967295 n e in rw e (omega arith))

pub told-near : (r : Refusal) → r.offset ≤ 4294967295 → r ≡ told_refusal r
told-near r h = rw (le-ltb 4294967295 r.offset h)

-- the refusals of a save
abbrev RefusedFits : Answer ℕ → Type 0
RefusedFits (Ok n) = Unit {0}
RefusedFits (Err r) = RefusalFits r

save-within : (lim : Limits) (s : List ℕ) (l : Lent) (row : List ℕ) → RefusedFits (save_call lim s l row).answer
unfolding save_call
save-within lim s l row = by (enter lim s l) (enter-within lim s l)
  where
    roomy : (b : Bool) (bytes : List ℕ) → RefusedFits (save_by b bytes row).answer
    roomy true bytes = omega arith
    roomy false bytes = tt

    by : (e : Entry) → EntryWithin lim e → RefusedFits (save_entry e s l row).answer
    by (turned_away r) h = h
    by (entered pr t) h = roomy (ltb (length row) (length (saved_bytes l (length s)))) (saved_bytes l (length s))

-- the size too
pub save-fits : (lim : Limits) (s : List ℕ) (l : Lent) (row : List ℕ) (a : Answer ℕ) → a ≡ (save_call lim s l row).answer → StoredFew a → SaveFits a
save-fits lim s l row (Ok n) e f = f
save-fits lim s l row (Err r) e f = rw (← e) at (save-within lim s l row)

-- no offset in an image is over 32 bits
pub image-near : (s : List ℕ) {f : Refusal} → load_of s ≡ Err f → f.offset ≤ 4294967295
image-near s e = rw e at (load_fits s)
