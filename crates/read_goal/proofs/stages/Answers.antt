use mathlib.Core.Path.{◌≡◌}
use lib.ListN.{drop, length}
use Prim.Native.Nat.{◌-◌}
use native.Mathlib.Nat.{sub-add-eq}
use Rattle.read_goal.proofs.Turn.{row_last, row_more, row-none}
use Rattle.read_goal.proofs.Spanned.{span-on, span_last, span-done, stages-on, stages-last, stages-done, goal-row}
use Rattle.text_program.specs.Source.{read_literal, row, row_for}
use native.Mathlib.Omega.{arith}
use Rattle.read_goal.proofs.stages.Goals as goal

pub returns-then-byte_at-ne-AMPERSAND : goal.returns-then-byte_at-ne-AMPERSAND
returns-then-byte_at-ne-AMPERSAND c = let left = length c.args.s.now - c.args.at - c.loop-n.n in let e = row_last (row read_literal 44) 38 c.args.s.now left c.loop-n.q c.stage-item.result.end _ c.stage-item.ensures.end c.byte_at.ensures.0 (omega arith) c.if-byte_at-ne-AMPERSAND.true in rw (goal-row (drop c.args.at c.args.s.now)) (span_last _ _ e (rw e ((stages-last c.loop-n.right c.stage-item.result.right c.stage-item.result.count c.loop-n.room (row read_literal 44 (drop c.loop-n.q c.args.s.now)).value c.stage-item.ensures.right c.stage-item.ensures.count))) c.stage-item.ensures.inside c.loop-n.invariant)

pub loop-n-preserved : goal.loop-n-preserved
loop-n-preserved c = let left = length c.args.s.now - c.args.at - c.loop-n.n in rw sub-add-eq (let e = row_more (row read_literal 44) 38 c.args.s.now left c.loop-n.q c.stage-item.result.end _ c.stage-item.ensures.end c.byte_at.ensures.0 c.after_mark-q.result (omega arith) c.if-byte_at-ne-AMPERSAND.false c.after_mark-q.ensures.0 in span-on _ _ e (rw e (rw c.saturating_sub-room.ensures (stages-on c.loop-n.right c.stage-item.result.right c.stage-item.result.count c.loop-n.room (row read_literal 44 (drop c.loop-n.q c.args.s.now)).value c.stage-item.ensures.right c.stage-item.ensures.count (row_for (left - 1) (row read_literal 44) 38 (drop c.after_mark-q.result c.args.s.now)).value))) (omega arith) c.after_mark-q.ensures.1 c.loop-n.invariant)

pub returns : goal.returns
returns c = let left = length c.args.s.now - c.args.at - c.loop-n.n in let n : c.loop-n.n ≡ length c.args.s.now - c.args.at = omega arith in let e = row-none (row read_literal 44) 38 c.args.s.now left c.loop-n.q (omega arith) in rw (goal-row (drop c.args.at c.args.s.now), ← n) (span-done _ e (rw e (stages-done c.loop-n.right c.loop-n.room)) c.loop-n.invariant)
