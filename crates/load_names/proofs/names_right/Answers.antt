use mathlib.Core.Path.{refl}
use Rattle.parlog.specs.Names.{names_right}
use Rattle.load_names.proofs.names_right.Goals as goal

pub returns-in-Relation : goal.returns-in-Relation
unfolding names_right
returns-in-Relation c = rw c.in-Relation.is refl

pub returns-in-Clause : goal.returns-in-Clause
unfolding names_right
returns-in-Clause c = rw (c.in-Clause.is, c.clause_placed.ensures, c.clause_inside.ensures) refl

pub returns-in-Goal : goal.returns-in-Goal
unfolding names_right
returns-in-Goal c = rw c.in-Goal.is c.ask_named.ensures
