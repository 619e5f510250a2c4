use Rattle.vars.proofs.Tables.{cells-grow}
use native.Mathlib.Omega.{arith}
use Rattle.vars.proofs.grow.Goals as goal

pub returns : goal.returns
returns c = rw c.wipe.ensures (cells-grow c.args.vars.now c.args.n c.args.k (omega arith))
