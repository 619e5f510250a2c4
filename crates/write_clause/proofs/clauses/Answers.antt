use native.Mathlib.Omega.{arith}
use Rattle.write_clause.proofs.Claused.{clauses-stop, clauses-turn}
use Rattle.write_clause.proofs.clauses.Goals as goal

pub loop-left-preserved : goal.loop-left-preserved
loop-left-preserved c = (clauses-turn c.args.s.now.relations c.args.s.now.names.row.now c.args.s.now.image.now c.loop-left.left c.loop-left.at _ _ c.loop-left-test.true (omega arith) c.next_mark-mark.ensures c.loop-left.invariant.0 c.clause.ensures, omega arith, omega arith)

pub returns : goal.returns
returns c = clauses-stop _ _ _ c.loop-left.left c.loop-left.at (omega arith) c.loop-left.invariant.0
