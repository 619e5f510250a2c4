use Prim.Native.Nat.{◌+◌}
use native.Mathlib.Nat.{add-zero, add_assoc}
use native.Mathlib.Omega.{arith}
use Rattle.write_goal.proofs.Rowed.{row-start, row-stop, row-turn}
use Rattle.write_text.proofs.modes.Goals as goal

pub loop-k-init : goal.loop-k-init
loop-k-init c = rw add-zero (row-start _ _ _ _ _ _ _ _)

pub loop-k-preserved : goal.loop-k-preserved
loop-k-preserved c = rw (← add_assoc) (row-turn _ _ _ _ _ _ c.loop-k.k (c.args.from + c.loop-k.k) c.loop-k-test.true c.loop-k.invariant c.lead.ensures (rw c.byte_at.ensures.0 at c.mode.ensures))

pub returns : goal.returns
returns c = row-stop _ _ _ _ _ _ c.loop-k.k (c.args.from + c.loop-k.k) (omega arith) c.loop-k.invariant
