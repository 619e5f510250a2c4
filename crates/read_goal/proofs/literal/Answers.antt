use Rattle.read_goal.proofs.Spanned.{equality-span, call-span}
use Rattle.read_goal.proofs.literal.Goals as goal

pub returns-then-byte_at-eq-EQUALS : goal.returns-then-byte_at-eq-EQUALS
returns-then-byte_at-eq-EQUALS c = equality-span c.args.s.now c.args.at c.past_name-behind.result _ c.past_name-behind.ensures.0 c.byte_at.ensures.0 c.after_mark-from.result c.past_name.result c.if-byte_at-eq-EQUALS.true c.after_mark-from.ensures.0 c.past_name.ensures.0 c.past_name.ensures.1

pub returns : goal.returns
returns c = call-span c.args.s.now c.args.at c.past_name-behind.result _ c.past_name-behind.ensures.0 c.byte_at.ensures.0 c.terms-t.result c.if-byte_at-eq-EQUALS.false c.terms-t.ensures
