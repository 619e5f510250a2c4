use native.Mathlib.Nat.{sub-add-eq}
use lib.ListN.{drop, length}
use Prim.Native.Nat.{◌-◌}
use native.Mathlib.Omega.{arith}
use Rattle.text_program.specs.Source.{read_literal}
use Rattle.read_goal.proofs.Turn.{row_last, row_more, row-none}
use Rattle.missing_call.specs.Called.{said_calls}
use Rattle.missing_call.proofs.Walked.{walked-done, walked-last, walked_on}
use Rattle.missing_call.proofs.Search.stage.Goals as goal

pub returns-then-byte_at-ne-COMMA : goal.returns-then-byte_at-ne-COMMA
returns-then-byte_at-ne-COMMA c = walked-last said_calls c.args.self.now.text.now c.args.self.now.places.now c.args.self.now.asked c.args.w _ (row_last read_literal 44 c.args.self.now.text.now (length c.args.self.now.text.now - c.loop.counter) c.loop.v.end c.literal-v.result.end _ c.literal-v.ensures.end c.byte_at.ensures.0 (omega arith) c.if-byte_at-ne-COMMA.true) c.literal-v.ensures c.loop.invariant

pub loop-preserved : goal.loop-preserved
loop-preserved c = rw (c.moved-v.ensures, sub-add-eq) (walked_on said_calls c.args.self.now.text.now c.args.self.now.places.now c.args.self.now.asked c.args.w (read_literal (drop c.loop.v.end c.args.self.now.text.now)).value c.after_mark.result (row_more read_literal 44 c.args.self.now.text.now (length c.args.self.now.text.now - c.loop.counter) c.loop.v.end c.literal-v.result.end _ c.literal-v.ensures.end c.byte_at.ensures.0 c.after_mark.result (omega arith) c.if-byte_at-ne-COMMA.false c.after_mark.ensures.0) c.literal-v.ensures c.after_mark.ensures.1 c.loop.invariant)

pub returns : goal.returns
returns c = walked-done said_calls c.args.self.now.text.now c.args.self.now.places.now c.args.self.now.asked c.args.w (row-none read_literal 44 c.args.self.now.text.now (length c.args.self.now.text.now - c.loop.counter) c.loop.v.end (omega arith)) c.loop.invariant
