use native.Mathlib.Omega.{arith}
use mathlib.Core.Path.{◌∙◌, refl}
use Prim.Native.Nat.{◌+◌}
use Rattle.lay_text.proofs.Laws.{capped-min, put_one}
use Rattle.lay_text.proofs.put.Goals as goal

pub returns : goal.returns
returns c = put_one _ _ _ _ _ c.store.ensures (c.saturating_add.ensures ∙ capped-min (c.args.w.at + 1)) refl (omega arith)
