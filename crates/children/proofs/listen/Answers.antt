use mathlib.Core.Path.{◌∙◌, sym}
use Rattle.children.proofs.Noting.{noted-child, noted_other}
use Rattle.children.proofs.listen.Goals as goal

pub returns-then-not-is_child : goal.returns-then-not-is_child
returns-then-not-is_child c = noted_other _ _ _ _ c.requires.1 (sym c.is_child.ensures ∙ c.if-not-is_child.true)

pub returns : goal.returns
returns c = rw (c.hear.ensures, c.note_of-f.ensures) (noted-child _ _ _ _ c.requires.1 (sym c.is_child.ensures ∙ c.if-not-is_child.false))
