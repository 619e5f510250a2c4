use Rattle.std.specs.Prelude.{Some}
use Rattle.vars.proofs.Tables.{cells-put}
use native.Mathlib.Omega.{arith}
use Rattle.vars.proofs.bind.Goals as goal

pub returns : goal.returns
returns c = rw c.put_bound.ensures (cells-put c.args.vars.now c.args.n c.args.v (Some c.args.t) (omega arith) (omega arith))
