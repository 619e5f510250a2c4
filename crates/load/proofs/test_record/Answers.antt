use mathlib.Core.Path.{refl}
use borrow.Author.Rules.{rules}
use Rattle.parlog.proofs.Walk.{whole}
use native.Mathlib.Omega.{arith}
use Rattle.parlog.specs.Load.{verdict}
use Rattle.load.proofs.test_record.Goals as goal

pub returns-in_err-kind : goal.returns-in_err-kind
unfolding verdict
returns-in_err-kind c = let f = rw c.in_err-kind.ensures.ok_part at c.kind_after.ensures in
    rw (← c.cut.ensures, c.if-cut.false, ← c.kind_at-number.ensures.0, f) (search rules)

pub returns-then-too_many : goal.returns-then-too_many
unfolding verdict
returns-then-too_many c = let k = rw c.in_ok-kind.ensures.ok_part at c.kind_after.ensures in
    rw (← c.cut.ensures, c.if-cut.false, ← c.kind_at-number.ensures.0, k.1, ← k.0, ← c.too_many.ensures, c.if-too_many.true) (refl, (omega arith, omega arith))

pub test_fields-requires-clause-inside : goal.test_fields-requires-clause-inside
test_fields-requires-clause-inside c = (whole c.args.known.now.image.now c.args.known.now.at (rw c.cut.ensures at c.if-cut.false)).1

pub returns : goal.returns
unfolding verdict
returns c = let k = rw c.in_ok-kind.ensures.ok_part at c.kind_after.ensures in
    rw (← c.cut.ensures, c.if-cut.false, ← c.kind_at-number.ensures.0, k.1, ← k.0, ← c.too_many.ensures, c.if-too_many.false) c.test_fields.ensures
