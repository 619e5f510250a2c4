use mathlib.Core.Path.{◌≡◌}
use lib.ListN.{length, take}
use Rattle.lay.specs.Lay.{laid}
use Rattle.lay_text.proofs.copy.Given as goal

abbrev pub invariant-loop-k : goal.invariant-loop-k
invariant-loop-k l = (l.out ≡ laid l.initial.out l.at (take l.k l.part)) × (length l.out ≡ length l.initial.out)
