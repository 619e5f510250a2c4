use Prim.Native.Nat.{◌%◌}
use mathlib.Core.Path.{refl}
use Rattle.lay_literal.proofs.Laid.{lows-one}
use Rattle.lay_literal.proofs.number.Goals as goal

pub returns : goal.returns
returns c = lows-one _ _ _ _ c.args.n (c.args.n % 256) refl c.put.ensures
