use native.Mathlib.Omega.{arith}
use Rattle.run.proofs.Turning.{look-ended, look-goes}
use Rattle.run.proofs.look.Goals as goal

pub proc_count-n-requires : goal.proc_count-n-requires
proc_count-n-requires c = c.requires.head

pub returns-then-mode_at-eq-DORMANT : goal.returns-then-mode_at-eq-DORMANT
returns-then-mode_at-eq-DORMANT c = look-ended _ c.proc_count-n.ensures.0 c.mode_at.ensures c.if-mode_at-eq-DORMANT.true c.result_at.ensures c.end_by-end.ensures

pub whose-t-requires : goal.whose-t-requires
whose-t-requires c = c.requires

pub returns : goal.returns
returns c = look-goes _ c.proc_count-n.ensures.0 c.mode_at.ensures c.if-mode_at-eq-DORMANT.false c.whose-t.ensures

pub invariant_of-used : goal.invariant_of-used
invariant_of-used c = record { whole = omega (arith, c.requires.rows, c.proc_count-n.ensures.0) }
