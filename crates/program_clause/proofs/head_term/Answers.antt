use Rattle.program_clause.proofs.Fields.{head-term-none, head-term-some}
use Rattle.program_clause.proofs.head_term.Goals as goal

pub returns-then-image-k : goal.returns-then-image-k
returns-then-image-k c = head-term-none c.args.image.now.bytes.now _ _ _ c.if-image-k.true _

pub returns : goal.returns
returns c = head-term-some c.args.image.now.bytes.now _ _ _ c.if-image-k.false c.record_at-at.ensures.0 _ c.byte_at-n.ensures.0 c.term_of.ensures
