use lib.ListN.{length}
use Prim.Native.Nat.{◌-◌}
use native.Mathlib.Nat.{sub-add-eq}
use mathlib.Core.Path.{◌≡◌, refl}
use Rattle.read_goal.proofs.Turn.{row_last, row_more, row-none}
use Rattle.read_goal.proofs.Spanned.{span-on, span_last, span-done, term-rest}
use Rattle.text_program.specs.Source.{read_term}
use native.Mathlib.Omega.{arith}
use Rattle.read_goal.proofs.names.Goals as goal

pub returns-then-byte_at-ne-COMMA : goal.returns-then-byte_at-ne-COMMA
returns-then-byte_at-ne-COMMA c = let left = length c.args.s.now - c.args.at - c.loop-n.n in span_last _ _ (row_last read_term 44 c.args.s.now left c.loop-n.q c.past_name-q.result _ (term-rest c.args.s.now c.loop-n.q c.past_name-q.result c.past_name-q.ensures.0) c.byte_at.ensures.0 (omega arith) c.if-byte_at-ne-COMMA.true) refl c.past_name-q.ensures.1 c.loop-n.invariant

pub loop-n-preserved : goal.loop-n-preserved
loop-n-preserved c = let left = length c.args.s.now - c.args.at - c.loop-n.n in rw sub-add-eq (span-on _ _ (row_more read_term 44 c.args.s.now left c.loop-n.q c.past_name-q.result _ (term-rest c.args.s.now c.loop-n.q c.past_name-q.result c.past_name-q.ensures.0) c.byte_at.ensures.0 c.after_mark-q.result (omega arith) c.if-byte_at-ne-COMMA.false c.after_mark-q.ensures.0) refl (omega arith) c.after_mark-q.ensures.1 c.loop-n.invariant)

pub returns : goal.returns
returns c = let left = length c.args.s.now - c.args.at - c.loop-n.n in let n : c.loop-n.n ≡ length c.args.s.now - c.args.at = omega arith in rw (← n) (span-done _ (row-none read_term 44 c.args.s.now left c.loop-n.q (omega arith)) refl c.loop-n.invariant)
