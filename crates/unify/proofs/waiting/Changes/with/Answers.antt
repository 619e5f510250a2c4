use mathlib.Core.Path.{refl}
use native.Mathlib.Omega.{arith}
use Rattle.unify.proofs.Laws.{with_last}
use Rattle.unify.specs.Pending.{pending}
use Rattle.unify.proofs.waiting.Changes.with.Goals as goal

pub returns : goal.returns
unfolding pending
returns c = (with_last _ _ _ (omega arith), refl)
