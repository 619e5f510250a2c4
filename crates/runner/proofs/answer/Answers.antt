use borrow.Author.Rules.{rules}
use mathlib.Core.Path.{◌∙◌, refl, sym}
use native.Mathlib.Omega.{arith}
use Rattle.runner.proofs.Telling.{lent-back, told-refused}
use Rattle.runner.proofs.answer.Goals as goal

pub returns-in_default : goal.returns-in_default
returns-in_default c = lent-back c.new-text.ensures.row.1 c.new-text.ensures.start c.requires (told-refused _ _ c.load-l.ensures.value c.in_default.is c.refusal.ensures c.refused.ensures) (search rules) refl

pub play-requires : goal.play-requires
play-requires c = (sym c.load-l.ensures.value ∙ c.in-Ok.is, (rw c.in-Ok.is at c.load-l.ensures.bounded).0, (rw c.in-Ok.is at c.load-l.ensures.bounded).1, rw c.new-text.ensures.row.1 c.new-text.ensures.start, omega (arith, c.new-text.ensures.start, c.requires))

pub returns : goal.returns
returns c = lent-back c.new-text.ensures.row.1 c.new-text.ensures.start c.requires c.play.ensures (search rules) refl
