use Rattle.declared_calls.proofs.Turns.{calls_above, Passing}
use Rattle.declared_calls.proofs.Table.class_declared.Given as goal

abbrev pub invariant-loop-at : goal.invariant-loop-at
invariant-loop-at l = Passing l.self.text.now l.self.named l.from l.left l.bound

abbrev pub decreases-loop-at : goal.decreases-loop-at
decreases-loop-at l = calls_above l.self.text.now l.from l.left l.bound
