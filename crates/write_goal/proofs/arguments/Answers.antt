use native.Mathlib.Omega.{arith}
use Rattle.write_goal.proofs.Rowed.{brackets-none, brackets-some}
use Rattle.lay_text.proofs.Lent.{wrote-none}
use Rattle.write_goal.proofs.arguments.Goals as goal

pub returns-then-n-eq0 : goal.returns-then-n-eq0
returns-then-n-eq0 c = brackets-none _ _ _ _ c.args.n c.args.from c.if-n-eq0.true (wrote-none _)

pub returns : goal.returns
returns c = brackets-some _ _ _ _ c.args.n c.args.from (omega arith) c.put.ensures c.terms.ensures c.put-2.ensures
