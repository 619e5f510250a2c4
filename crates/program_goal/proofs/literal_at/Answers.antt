use mathlib.Core.Path.{◌∙◌}
use Rattle.program_goal.proofs.Goals.{lit-first, lit-second}
use Rattle.program_goal.proofs.literal_at.Goals as goal

pub returns-then-j-count : goal.returns-then-j-count
returns-then-j-count c = let a = c.args in (c.equation.ensures.0 ∙ rw (c.term_at-t.ensures.0, c.byte_at-v.ensures.0) (lit-first a.image.now.bytes.now _ a.h _ c.outs_before-outs.ensures.0 _ c.if-j-count.true (c.outs_before-outs.ensures.1 c.if-j-count.true)), c.equation.ensures.1)

pub returns : goal.returns
returns c = let a = c.args in (c.literal_in.ensures.0 ∙ lit-second a.image.now.bytes.now _ a.h _ c.outs_before-outs.ensures.0 _ c.if-j-count.false, c.literal_in.ensures.1)
