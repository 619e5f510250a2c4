use mathlib.Core.Path.{◌∙◌}
use Rattle.program_goal.proofs.Rows.{in-here, in-none, in-past}
use Rattle.program_goal.proofs.literal_in.Goals as goal

pub returns-then-n-i : goal.returns-then-n-i
returns-then-n-i c = (c.none.ensures.0 ∙ in-none c.args.s.now _ _ _ _ c.if-n-i.true, c.none.ensures.1)

pub returns-then-m-j : goal.returns-then-m-j
returns-then-m-j c = (c.none-then-m-j.ensures.0 ∙ in-past c.args.s.now _ _ _ c.if-n-i.false c.stages_end-st.ensures.0 c.byte_at-m.ensures.0 _ c.if-m-j.true, c.none-then-m-j.ensures.1)

pub returns : goal.returns
returns c = (c.literal_here.ensures.0 ∙ in-here c.args.s.now _ _ _ c.if-n-i.false c.stages_end-st.ensures.0 c.byte_at-m.ensures.0 _ c.if-m-j.false c.literals_end-l.ensures.0, c.literal_here.ensures.1)
