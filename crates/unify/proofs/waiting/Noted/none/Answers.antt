use mathlib.Core.Path.{refl}
use lib.Dec.{lit≤}
use Rattle.parlog.specs.Delta.{four_of}
use Rattle.unify.specs.Pending.{noted_in}
use Rattle.unify.proofs.waiting.Noted.none.Goals as goal

pub invariant_of-result : goal.invariant_of-result
unfolding four_of
invariant_of-result c = record { few = lit≤ tt; filled = refl }

pub returns : goal.returns
unfolding noted_in
returns c = (refl, refl)
