use native.Mathlib.Omega.{arith}
use Rattle.write_text.proofs.Lined.{marks-none, marks-some}
use Rattle.lay_text.proofs.Lent.{wrote-none}
use Rattle.write_text.proofs.mode_marks.Goals as goal

pub returns-then-n-eq0 : goal.returns-then-n-eq0
returns-then-n-eq0 c = marks-none c.args.s.now c.args.at _ c.byte_at-n.ensures.0 c.if-n-eq0.true (wrote-none _)

pub returns : goal.returns
returns c = marks-some c.args.s.now c.args.at _ c.byte_at-n.ensures.0 (omega arith) c.put.ensures c.modes.ensures c.put-2.ensures
