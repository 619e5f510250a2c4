use mathlib.Core.Path.{◌∙◌, sym}
use Rattle.load.proofs.Inside.{goals-in}
use Rattle.place.proofs.Rows.{row-right}
use Rattle.load.proofs.test_fields.Goals as goal

pub names_right-requires : goal.names_right-requires
names_right-requires c = let a = c.args in
    let r = row-right _ _ _ (sym c.in_ok-body.ensures.ok_part ∙ c.body_of.ensures.0) in
    goals-in a.known.now.image.now a.known.now.at _ (rw c.number.ensures at r.0) c.requires.inside
