use native.Mathlib.Omega.{arith}
use Rattle.watch_rows.proofs.Turns.{rows_end, rows-hit}
use Rattle.watch_rows.proofs.watch_rows.Goals as goal

pub returns-then-is_suspended : goal.returns-then-is_suspended
returns-then-is_suspended c = rows-hit _ _ _ c.loop-q.invariant c.get-x.ensures c.is_suspended.ensures c.loop-q-test.true c.if-is_suspended.true

pub returns : goal.returns
returns c = rows_end _ _ _ c.loop-q.invariant (omega arith)
