use lib.ListN.{drop, length}
use Prim.Native.Nat.{◌-◌}
use native.Mathlib.Nat.{sub-add-eq}
use mathlib.Core.Path.{◌≡◌}
use Rattle.read_goal.proofs.Turn.{row_last, row_more, row-none}
use Rattle.read_goal.proofs.Spanned.{span-on, span_last, span-done, all-on, all-last, all_done}
use Rattle.read_goal.specs.Spans.{literal_right}
use Rattle.text_program.specs.Source.{read_literal, row_for}
use native.Mathlib.Omega.{arith}
use Rattle.read_goal.proofs.literals.Goals as goal

pub returns-then-byte_at-ne-COMMA : goal.returns-then-byte_at-ne-COMMA
returns-then-byte_at-ne-COMMA c = let left = length c.args.s.now - c.args.at - c.loop-n.n in let e = row_last read_literal 44 c.args.s.now left c.loop-n.q c.literal-item.result.end _ c.literal-item.ensures.end c.byte_at.ensures.0 (omega arith) c.if-byte_at-ne-COMMA.true in span_last _ _ e (rw e (all-last literal_right c.loop-n.right c.literal-item.result.right (read_literal (drop c.loop-n.q c.args.s.now)).value c.literal-item.ensures.right)) c.literal-item.ensures.inside c.loop-n.invariant

pub loop-n-preserved : goal.loop-n-preserved
loop-n-preserved c = let left = length c.args.s.now - c.args.at - c.loop-n.n in rw sub-add-eq (let e = row_more read_literal 44 c.args.s.now left c.loop-n.q c.literal-item.result.end _ c.literal-item.ensures.end c.byte_at.ensures.0 c.after_mark-q.result (omega arith) c.if-byte_at-ne-COMMA.false c.after_mark-q.ensures.0 in span-on _ _ e (rw e ((all-on literal_right c.loop-n.right c.literal-item.result.right (read_literal (drop c.loop-n.q c.args.s.now)).value (row_for (left - 1) read_literal 44 (drop c.after_mark-q.result c.args.s.now)).value c.literal-item.ensures.right))) (omega arith) c.after_mark-q.ensures.1 c.loop-n.invariant)

pub returns : goal.returns
returns c = let left = length c.args.s.now - c.args.at - c.loop-n.n in let n : c.loop-n.n ≡ length c.args.s.now - c.args.at = omega arith in let e = row-none read_literal 44 c.args.s.now left c.loop-n.q (omega arith) in rw (← n) (span-done _ e (rw e (all_done literal_right c.loop-n.right)) c.loop-n.invariant)
