-- What the tests of MANY leave room for.
use mathlib.Core.Path.{◌≡◌}
use mathlib.Core.Bool.{false}
use mathlib.Core.List.{List}
use Prim.Native.Nat.{◌+◌, ◌<◌, ◌≤◌, ℕ}
use lib.Dec.{eqb}
use borrow.Author.Tests.{eq-eqb, leb-false, ltb-false, ne_eqb}
use native.Mathlib.Omega.{arith}
use Rattle.parlog.specs.Load.{block_full, block_with, too_many}
use Rattle.parlog.specs.Records.{byte_at}
use Rattle.parlog.specs.declared.Progress.{Progress}

pub few-relations : (g : Progress) (kind : ℕ) → kind ≡ 1 → too_many g kind ≡ false → g.relations < 32
unfolding too_many
few-relations g kind e h = leb-false 32 g.relations (rw (eq-eqb kind 1 e) at h)

pub few-clauses : (g : Progress) (kind : ℕ) → kind ≡ 2 → too_many g kind ≡ false → g.clauses < 64
unfolding too_many
few-clauses g kind e h =
    let k : eqb kind 1 ≡ false = ne_eqb kind 1 (λ f. omega arith) in
    leb-false 64 g.clauses (rw (k, eq-eqb kind 2 e) at h)

pub block_room : (s : List ℕ) (g : Progress) (at kind : ℕ) → kind ≡ 2 → block_full s g at kind ≡ false → block_with g (byte_at s (at + 4)) (byte_at s (at + 6)) ≤ 8
unfolding block_full
block_room s g at kind e h = ltb-false 8 (block_with g (byte_at s (at + 4)) (byte_at s (at + 6))) (rw (eq-eqb kind 2 e) at h)
