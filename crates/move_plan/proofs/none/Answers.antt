use mathlib.Core.Path.{refl}
use borrow.Author.Rules.{rules}
use Rattle.move_plan.specs.Plans.{applied_of}
use Rattle.move_plan.proofs.none.Goals as goal

pub returns : goal.returns
unfolding applied_of
returns c = (refl, search rules, c.none.ensures.1)
