use native.Mathlib.Omega.{arith}
use Rattle.program_goal.proofs.Goals.{size-both, size-short}
use Rattle.program_goal.proofs.stage_size_at.Goals as goal

pub returns-then-stages-i : goal.returns-then-stages-i
returns-then-stages-i c = (size-short c.args.image.now.bytes.now _ c.args.h _ c.outs_before-outs.ensures.0 c.if-stages-i.true, omega arith)

pub returns : goal.returns
returns c = (size-both c.args.image.now.bytes.now _ c.args.h _ c.outs_before-outs.ensures.0 c.if-stages-i.false c.stages_end-st.ensures.0 c.byte_at.ensures.0, omega arith)
