use Rattle.std.proofs.lemmas.Option.{IfSome_then}
use Rattle.place.proofs.Grows.{goal-grows, goal-in}
use Rattle.parlog.specs.Names.{goal_named}
use Rattle.parlog.specs.Image.{goal_end}
use lib.ListN.{length}
use native.Mathlib.Omega.{arith}
use Rattle.load_names.proofs.goal_named.Goals as goal

pub byte_in-n-requires : goal.byte_in-n-requires
byte_in-n-requires c = let a = c.args in let g = goal-grows a.known.now.image.now a.at in omega arith

pub stages_named-requires : goal.stages_named-requires
stages_named-requires c = let a = c.args in let g = goal-in a.known.now.image.now a.at c.byte_in-n.result (length a.known.now.image.now) c.byte_in-n.ensures.0 c.requires.2 in omega arith

pub returns : goal.returns
unfolding goal_named goal_end
returns c = (rw (← c.byte_in-n.ensures.0) c.stages_named.ensures.0, IfSome_then c.stages_named.result c.stages_named.ensures.1 (λ e p. omega arith))
