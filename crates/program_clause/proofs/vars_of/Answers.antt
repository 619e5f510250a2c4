use native.Mathlib.Omega.{arith}
use Rattle.program_clause.proofs.Fields.{all-vars-none}
use Rattle.program_clause.proofs.vars_of.Goals as goal

pub returns-then-image-k : goal.returns-then-image-k
returns-then-image-k c = (all-vars-none c.args.image.now.bytes.now _ _ _ c.if-image-k.true c.args.image.now.few_relations, omega arith)
