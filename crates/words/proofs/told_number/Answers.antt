use native.Mathlib.Omega.{arith}
use Rattle.words.proofs.Nights.{told-min}
use Rattle.words.proofs.told_number.Goals as goal

pub returns : goal.returns
returns c = rw c.min.ensures (told-min c.args.n, omega arith)
