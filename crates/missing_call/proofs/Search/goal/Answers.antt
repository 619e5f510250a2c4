use native.Mathlib.Nat.{sub-add-eq}
use Rattle.text_program.specs.Numbered.{joined}
use Rattle.read_goal.proofs.Spanned.{goal-row}
use lib.ListN.{drop, length}
use Prim.Native.Nat.{◌-◌}
use native.Mathlib.Omega.{arith}
use Rattle.text_program.specs.Source.{read_literal, row}
use Rattle.read_goal.proofs.Turn.{row_last, row_more, row-none}
use Rattle.missing_call.specs.Called.{said_calls}
use Rattle.missing_call.proofs.Walked.{walked-done, walked-last, walked_on}
use Rattle.missing_call.proofs.Search.goal.Goals as goal

pub returns-then-byte_at-ne-AMPERSAND : goal.returns-then-byte_at-ne-AMPERSAND
returns-then-byte_at-ne-AMPERSAND c = rw (goal-row (drop c.args.w.end c.args.self.now.text.now)) (walked-last (joined said_calls) c.args.self.now.text.now c.args.self.now.places.now c.args.self.now.asked c.args.w _ (row_last (row read_literal 44) 38 c.args.self.now.text.now (length c.args.self.now.text.now - c.loop.counter) c.loop.v.end c.stage-v.result.end _ c.stage-v.ensures.end c.byte_at.ensures.0 (omega arith) c.if-byte_at-ne-AMPERSAND.true) c.stage-v.ensures c.loop.invariant)

pub loop-preserved : goal.loop-preserved
loop-preserved c = rw (c.moved-v.ensures, sub-add-eq) (walked_on (joined said_calls) c.args.self.now.text.now c.args.self.now.places.now c.args.self.now.asked c.args.w (row read_literal 44 (drop c.loop.v.end c.args.self.now.text.now)).value c.after_mark.result (row_more (row read_literal 44) 38 c.args.self.now.text.now (length c.args.self.now.text.now - c.loop.counter) c.loop.v.end c.stage-v.result.end _ c.stage-v.ensures.end c.byte_at.ensures.0 c.after_mark.result (omega arith) c.if-byte_at-ne-AMPERSAND.false c.after_mark.ensures.0) c.stage-v.ensures c.after_mark.ensures.1 c.loop.invariant)

pub returns : goal.returns
returns c = rw (goal-row (drop c.args.w.end c.args.self.now.text.now)) (walked-done (joined said_calls) c.args.self.now.text.now c.args.self.now.places.now c.args.self.now.asked c.args.w (row-none (row read_literal 44) 38 c.args.self.now.text.now (length c.args.self.now.text.now - c.loop.counter) c.loop.v.end (omega arith)) c.loop.invariant)
