use mathlib.Core.Path.{refl}
use native.Mathlib.Omega.{arith}
use borrow.Author.Rules.{rules}
use Rattle.unify.proofs.Laws.{four-with, with_last}
use Rattle.unify.specs.Pending.{noted_in}
use Rattle.unify.proofs.waiting.Noted.with.Goals as goal

pub invariant_of-result : goal.invariant_of-result
invariant_of-result c = record { few = omega arith; filled = rw c.from.ensures (four-with _ _ _ (search rules) c.requires c.args.self.filled) }

pub returns : goal.returns
unfolding noted_in
returns c = (rw c.from.ensures (with_last _ _ _ (omega arith)), refl)
