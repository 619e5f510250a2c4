-- What the watch finds, and one turn of a scan that comes to it.
use Rattle.std.specs.Prelude.{Some, None}
use mathlib.Core.Path.{◌∙◌, ◌≡◌, sym}
use mathlib.Core.Bool.{Bool, false, true}
use mathlib.Core.List.{List}
use Prim.Native.Nat.{◌<◌, ◌≤◌, ℕ}
use lib.Dec.{ltb}
use lib.ListN.{length}
use borrow.Author.Tests.{ltb-false, ltb-true}
use native.Mathlib.Omega.{arith}
use Rattle.parlog.proofs.Bools.{never, split}
use Rattle.parlog.proofs.Scans.{lowest-is, lowest-nothing}
use Rattle.parlog.specs.Codes.{is_mode, suspended}
use Rattle.parlog.specs.Run.{watch_of}
use Rattle.parlog.specs.Tables.{at}
use Rattle.parlog.specs.declared.Process.{Process}

-- process i is suspended
abbrev pub suspended_at : List Process → ℕ → Bool
suspended_at ps i = is_mode suspended (at ps i).mode

-- none below q is
abbrev pub Quiet : List Process → ℕ → Type 0
Quiet ps q = (i : ℕ) → i < q → suspended_at ps i ≡ false

-- ---- what makes an answer

-- the lowest number of a suspended process
pub record First (ps : List Process) (i : ℕ) : Type 0 where
  pub there : i < length ps
  pub suspends : suspended_at ps i ≡ true
  pub quiet : Quiet ps i

module _ (ps : List Process) where
  pub watch-first : (i : ℕ) → First ps i → watch_of ps ≡ Some i
  unfolding watch_of
  watch-first i f = lowest-is (suspended_at ps) (length ps) i (record { there = f.there; passes = f.suspends; least = least })
    where
      least : (j : ℕ) → j < length ps → suspended_at ps j ≡ true → i ≤ j
      least j h p = split (ltb j i) (λ z. never (sym (f.quiet j (ltb-true j i z)) ∙ p)) (λ z. ltb-false j i z)

  pub watch-quiet : Quiet ps (length ps) → watch_of ps ≡ None
  unfolding watch_of
  watch-quiet q = lowest-nothing (suspended_at ps) (length ps) q

-- ---- a turn of a scan that has come to q; b is what the test says of process q

module _ (ps : List Process) (q : ℕ) (so : Quiet ps q) where
  pub watch-end : length ps ≤ q → watch_of ps ≡ None
  watch-end h = watch-quiet ps (λ i u. so i (omega arith))

  module _ {b : Bool} (e : b ≡ suspended_at ps q) where
    pub watch-hit : q < length ps → b ≡ true → watch_of ps ≡ Some q
    watch-hit h y = watch-first ps q (record { there = h; suspends = sym e ∙ y; quiet = so })
