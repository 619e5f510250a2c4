use mathlib.Core.Path.{refl}
use Rattle.program_goal.proofs.Homes.{split-left, split_off, split-on}
use Rattle.program_goal.proofs.split_by.Goals as goal

pub returns-then-kind-image : goal.returns-then-kind-image
returns-then-kind-image c = split_off c.args.image.now.bytes.now _ _ _ _ refl c.if-kind-image.true

pub returns : goal.returns
returns c = let l = split-left c.args.image.now.bytes.now c.args.image.now.relations c.args.image.now.clauses c.args.k c.args.kind refl c.if-kind-image.false in split-on c.args.image.now.bytes.now _ _ _ _ l.0 l.1 c.record_at-clause.ensures.0 c.body_at-at.ensures.0 c.byte_at-stages.ensures.0 c.splits.ensures
