use Rattle.children.proofs.Noting.{noted-start}
use Rattle.children.proofs.Ways.{noted-end}
use native.Mathlib.Omega.{arith}
use mathlib.Core.Path.{sym}
use Rattle.rows.proofs.Tables.{procs-length}
use Rattle.children.proofs.asked.Goals as goal

pub loop-q-init : goal.loop-q-init
loop-q-init c = noted-start _ _ _ _ _ (sym (procs-length _ _))

pub returns : goal.returns
returns c = c.told_by.ensures _ (noted-end _ _ _ _ (omega arith) c.loop-q.invariant)
