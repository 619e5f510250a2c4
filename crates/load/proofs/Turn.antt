-- One turn of `records`, as the loop takes it.
use Rattle.std.specs.Prelude.{Result, Err, Ok}
use mathlib.Core.Path.{◌≡◌, refl}
use mathlib.Core.Bool.{Bool, false, true}
use mathlib.Core.List.{List}
use Prim.Native.Nat.{◌<◌, ◌≤◌, ℕ}
use lib.ListN.{length}
use native.Mathlib.Omega.{arith}
use Rattle.load.specs.Fields.{record_verdict}
use Rattle.parlog.proofs.Walk.{walk-cut, walk_end, walk-one}
use Rattle.parlog.specs.Load.{broken, judged, load_end, records, refusal, refuse_if, verdict}
use Rattle.parlog.specs.Records.{cut, record_end}
use Rattle.parlog.specs.declared.Progress.{Progress}

pub passed : (b : Bool) (n : ℕ) (v : Result Progress ℕ) (t : Progress) → refuse_if b n v ≡ Ok t → (b ≡ false) × (v ≡ Ok t)
passed true n v t e = absurd (let z : ◌≡◌ {A = ℕ} 0 1 = cc in omega arith)
passed false n v t e = (refl, e)

module _ (s : List ℕ) (g : Progress) (at : ℕ) where
  pub stops : (j : ℕ) → at < length s → record_verdict s g at ≡ Err j → records s (length s) at g ≡ Err (refusal j at)
  stops j l v = go (cut s at) refl v
    where
      go : (b : Bool) → cut s at ≡ b → refuse_if b 2 (verdict s g at) ≡ Err j → records s (length s) at g ≡ Err (refusal j at)
      go true e v' = let q : 2 ≡ j = cc in rw q at (walk-cut s broken (judged s) (load_end s) (length s) at g (omega arith) l e)
      go false e v' = rw v' at (walk-one s broken (judged s) (load_end s) (length s) at g (omega arith) l e)

  pub goes : (t : Progress) → at < length s → record_verdict s g at ≡ Ok t → records s (length s) at g ≡ records s (length s) (record_end s at) t
  goes t l v =
      let p = passed (cut s at) 2 (verdict s g at) t v in
      rw p.1 at (walk-one s broken (judged s) (load_end s) (length s) at g (omega arith) l p.0)

  pub ends : length s ≤ at → records s (length s) at g ≡ load_end s g
  ends h = walk_end s broken (judged s) (load_end s) (length s) at g h
