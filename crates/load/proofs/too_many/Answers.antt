use mathlib.Core.Path.{refl}
use Rattle.parlog.specs.Load.{too_many}
use Rattle.load.proofs.too_many.Goals as goal

pub returns-in-Relation : goal.returns-in-Relation
unfolding too_many
returns-in-Relation c = rw c.in-Relation.is refl

pub returns-in-Clause : goal.returns-in-Clause
unfolding too_many
returns-in-Clause c = rw c.in-Clause.is refl

pub returns-in-Goal : goal.returns-in-Goal
unfolding too_many
returns-in-Goal c = rw c.in-Goal.is refl
