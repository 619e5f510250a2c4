use native.Mathlib.Omega.{arith}
use Rattle.run.proofs.Turning.{whose-is}
use Rattle.parlog.specs.Limits.{small}
use Rattle.run.proofs.whose.Goals as goal

pub next-requires : goal.next-requires
unfolding small
next-requires c = (omega (arith, c.requires.procs_most, c.proc_count-n.ensures.0), rw (c.proc_count-n.ensures.0) c.requires.falls, omega (arith, c.requires.last, c.proc_count-n.ensures.0, c.marker_last-last.ensures.0))

pub returns : goal.returns
unfolding small
returns c = whose-is _ _ _ c.proc_count-n.ensures.0 c.var_count-m.ensures.0 c.marker_last-last.ensures.0 c.next.ensures.0 c.next.ensures.1

pub invariant_of-used : goal.invariant_of-used
invariant_of-used c = record { whole = omega (arith, c.requires.rows, c.proc_count-n.ensures.0) }

pub invariant_of-cells : goal.invariant_of-cells
invariant_of-cells c = record { whole = omega (arith, c.requires.cells, c.var_count-m.ensures.0) }
