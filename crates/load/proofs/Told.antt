-- What is told with the verdict of a record, and the first record of an image.
use Rattle.parlog.specs.declared.Progress.{Progress}
use Rattle.std.specs.Prelude.{Result, Ok, Err, IfSome}
use Rattle.std.specs.Result.{result_err}
use mathlib.Core.Path.{◌≡◌, ap, sym}
use mathlib.Core.List.{List}
use Prim.Native.Nat.{◌≤◌, ℕ}
use lib.ListN.{length}
use borrow.Author.Tests.{le-ltb}
use native.Mathlib.Omega.{arith}
use Rattle.load.proofs.Turn.{stops}
use Rattle.load.specs.Bounds.{Next}
use Rattle.load.specs.Fields.{record_verdict, told}
use Rattle.parlog.specs.Load.{load_of, long, nothing_read, refusal}

pub told-err : (v : Result Progress ℕ) (p j : ℕ) → told v p ≡ Err j → v ≡ Err j
told-err (Ok g) p j e = absurd (let z : ◌≡◌ {A = ℕ} 0 1 = cc in omega arith)
told-err (Err n) p j e = cc

pub told-ok : (v : Result Progress ℕ) (p b : ℕ) (g : Progress) → told v p ≡ Ok (g, b) → (v ≡ Ok g) × (b ≡ p)
told-ok (Ok t) p b g e =
    let q : ◌≡◌ {A = Progress × ℕ} (t, p) (g, b) = cc in
    (ap (λ x. Ok x.0) q, ap (λ x. x.1) (sym q))
told-ok (Err n) p b g e = absurd (let z : ◌≡◌ {A = ℕ} 0 1 = cc in omega arith)

-- the first record decides where it is refused
module _ (s : List ℕ) (some : length s ≡ 0 → ⊥) (short : length s ≤ 32768) where
  pub first_stops : (p : ℕ) (r : Result (Progress × ℕ) ℕ) → r ≡ told (record_verdict s nothing_read 0) p → Next r → IfSome (result_err r) (λ n. (load_of s ≡ Err (refusal n 0)) × (1 ≤ n) × (n ≤ 7))
  unfolding load_of long
  first_stops p (Ok x) e h = tt
  first_stops p (Err j) e h = (rw (le-ltb 32768 (length s) short) (stops s nothing_read 0 j (omega arith) (told-err _ p j (sym e))), h.0, h.1)
