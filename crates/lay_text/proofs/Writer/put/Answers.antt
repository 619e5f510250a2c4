use mathlib.Core.Path.{◌∙◌, refl}
use Prim.Native.Nat.{◌+◌}
use Rattle.lay_text.proofs.Laws.{capped-min, put_one}
use Rattle.lay_text.proofs.Writer.put.Goals as goal

pub returns : goal.returns
returns c = let w = c.args.self.now in
    record { lent = refl; size = c.store.auto.out; writes = put_one w.out.now _ w.to _ _ c.store.ensures (c.saturating_add-self.ensures ∙ capped-min (w.to.at + 1)) refl w.holds.0 }
