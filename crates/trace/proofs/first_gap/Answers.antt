use Rattle.trace.proofs.Laws.{gap-found, gap-none}
use Rattle.std.proofs.Common.{rules}
use Rattle.trace.proofs.first_gap.Goals as goal

pub returns-then-gap : goal.returns-then-gap
returns-then-gap c = gap-found c.args.s.now _ _ c.loop-k.invariant (search rules) (rw (c.new-before.ensures.0, c.new-before.ensures.1) at c.stamp.ensures) (rw (c.new-here.ensures.0, c.new-here.ensures.1) at c.stamp-in-loop-k.ensures) c.gap.ensures c.loop-k-test.true c.if-gap.true

pub returns : goal.returns
returns c = gap-none _ _ _ c.loop-k.invariant (search rules) c.loop-k-test.false
