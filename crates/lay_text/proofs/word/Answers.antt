use mathlib.Core.Path.{◌∙◌, refl}
use native.Mathlib.Omega.{arith}
use Prim.Native.Nat.{◌+◌}
use lib.ListN.{length}
use Rattle.lay_text.proofs.Laws.{capped-min, laid_word}
use Rattle.lay_text.proofs.word.Goals as goal

pub returns : goal.returns
returns c = laid_word _ _ _ _ _ c.copy.ensures (c.saturating_add.ensures ∙ capped-min (c.args.w.at + length c.args.bytes.now)) refl (omega arith)
