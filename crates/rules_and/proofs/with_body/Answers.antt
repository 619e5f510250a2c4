use native.Mathlib.Omega.{arith}
use Rattle.rules_and.proofs.Ways.{body-none, body-some}
use Rattle.rules_and.proofs.with_body.Goals as goal

pub returns-then-not-apart : goal.returns-then-not-apart
returns-then-not-apart c = (body-none _ _ _ _ (c.if-not-apart.true), c.requires.1)

pub returns : goal.returns
returns c = (body-some _ _ _ _ _ (c.if-not-apart.false) c.goal_spot-y.ensures c.new_process-body.ensures c.append.ensures, let h = c.requires.2 (c.if-not-apart.false) in omega arith)
