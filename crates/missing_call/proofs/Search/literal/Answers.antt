use Rattle.missing_call.proofs.Ways.{call-seen, equality-seen}
use Rattle.missing_call.proofs.Search.literal.Goals as goal

pub returns-then-byte_at-eq-EQUALS : goal.returns-then-byte_at-eq-EQUALS
returns-then-byte_at-eq-EQUALS c = rw c.moved.ensures (equality-seen c.args.self.now.text.now c.args.self.now.places.now c.args.self.now.asked c.args.w c.name_at-word.result.end c.skip_blanks-behind.result _ c.name_at-word.ensures.end c.skip_blanks-behind.ensures.0 c.byte_at.ensures.0 c.after_mark-from.result c.past_name.result c.if-byte_at-eq-EQUALS.true c.after_mark-from.ensures.0 c.past_name.ensures.0 c.past_name.ensures.1 c.requires.within)

pub returns : goal.returns
returns c = rw c.moved-2.ensures (call-seen c.args.self.now.text.now c.args.self.now.places.now c.args.self.now.asked c.args.w c.name_at-word.result.end c.skip_blanks-behind.result _ c.name_at-word.ensures.end c.skip_blanks-behind.ensures.0 c.byte_at.ensures.0 c.call-c.result c.terms-t.result c.if-byte_at-eq-EQUALS.false c.call-c.ensures c.terms-t.ensures)
