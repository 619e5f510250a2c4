use Rattle.saved.proofs.Faults.{fault-told, fault-untold}
use Rattle.trace.proofs.Laws.{faults-done, faults-found, faults-next}
use Rattle.std.proofs.Common.{arith, refl}
use Rattle.trace.proofs.faults.Goals as goal

pub returns-in-Some : goal.returns-in-Some
returns-in-Some c = let f = fault-told c.in-Some.ensures in faults-found _ _ c.loop-k.invariant.1 (omega arith) f.0 f.1

pub loop-k-preserved : goal.loop-k-preserved
loop-k-preserved c = faults-next _ _ c.loop-k.invariant.1 (omega arith) (fault-untold c.in_default.ensures) refl

pub returns : goal.returns
returns c = faults-done _ _ c.loop-k.invariant.1 _ (omega arith) c.loop-k.invariant.0 (omega arith)
