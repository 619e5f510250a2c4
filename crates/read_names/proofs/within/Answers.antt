use Rattle.read_names.proofs.Tabled.{drop_within}
use native.Mathlib.Omega.{arith}
use Rattle.read_names.proofs.within.Goals as goal

pub returns : goal.returns
returns c = rw c.min.ensures (drop_within c.args.s.now c.args.q, omega arith)
