use mathlib.Core.Path.{◌∙◌, refl}
use Prim.Native.Nat.{◌+◌}
use lib.ListN.{length}
use Rattle.lay_text.proofs.Laws.{capped-min, laid_word}
use Rattle.lay_text.proofs.Writer.word.Goals as goal

pub returns : goal.returns
returns c = let w = c.args.self.now in
    record { lent = refl; size = c.copy.auto.out; writes = laid_word w.out.now _ w.to _ _ c.copy.ensures (c.saturating_add-self.ensures ∙ capped-min (w.to.at + length c.args.bytes.now)) refl w.holds.0 }
