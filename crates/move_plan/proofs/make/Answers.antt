use borrow.Author.Rules.{rules}
use Rattle.move_plan.specs.Plans.{applied_of, delta_of}
use Rattle.move_plan.proofs.make.Goals as goal

pub returns : goal.returns
unfolding applied_of delta_of
returns c = (rw c.none.ensures.0, search rules, c.none.ensures.1)
