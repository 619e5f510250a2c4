use mathlib.Core.Bool.{◌&&◌, Bool}
use mathlib.Core.Path.{◌∙◌, ap, refl, sym}
use Rattle.entry_table.proofs.Places.{entry-is}
use Rattle.text_names.specs.Bytes.{front}
use Rattle.lay_text.proofs.Laws.{capped-min, entry-told}
use Rattle.lay_text.proofs.Writer.name.Goals as goal

pub returns : goal.returns
returns c = let f = c.find-from in
    let n = c.name_end-end in
    let w = c.args.self.now in
    record {
      lent = refl;
      size = c.copy.auto.out;
      writes = entry-told w.out.now _ _ w.to _ f.result n.result _ _ f.ensures.1 n.ensures.1 n.ensures.0 (ap front f.ensures.0) w.holds.0 c.copy.ensures (c.saturating_add-self.ensures ∙ capped-min _)
          (ap (λ (v : Bool). w.to.named && v) (c.is_name-there.ensures ∙ sym (entry-is _ _ f.result n.result f.ensures.0 n.ensures.0)));
    }
