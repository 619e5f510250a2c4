use mathlib.Core.Path.{refl}
use lib.Dec.{lit≤}
use borrow.Author.Rules.{rules}
use native.Mathlib.Omega.{arith}
use Rattle.decide.proofs.Pairs.{below_one, equate-is, top-shifted}
use Rattle.decide.proofs.equate_of.Goals as goal

pub decide-requires : goal.decide-requires
decide-requires c = (search rules, lit≤ tt, below_one _ _ (top-shifted _ _ _ c.shift-x.ensures c.requires.1) (top-shifted _ _ _ c.shift-y.ensures c.requires.2), λ k h. absurd (omega arith))

pub returns : goal.returns
returns c = equate-is _ _ _ _ _ refl c.shift-x.ensures c.shift-y.ensures c.decide.ensures
