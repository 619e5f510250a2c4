use native.Mathlib.Omega.{arith}
use Rattle.program_clause.proofs.Fields.{vars-none, vars-some}
use Rattle.program_clause.proofs.clause_vars.Goals as goal

pub returns-then-image-k : goal.returns-then-image-k
returns-then-image-k c = (vars-none c.args.image.now.bytes.now _ _ _ c.if-image-k.true, omega arith)

pub returns : goal.returns
returns c = (vars-some c.args.image.now.bytes.now _ _ _ c.if-image-k.false c.record_at-at.ensures.0 c.byte_at.ensures.0, omega arith)
