use Rattle.rules_or.proofs.Ways.{next-found, no-next}
use Rattle.rules_or.proofs.next_block.Goals as goal

pub returns-then-count-b : goal.returns-then-count-b
returns-then-count-b c = (λ s e. no-next _ s _ _ c.blocks-count.ensures.0 _ c.if-count-b.true c.report.ensures.0, c.report.ensures.1, c.report.ensures.2)

pub returns : goal.returns
returns c = (λ s e. next-found _ s _ _ c.blocks-count.ensures.0 _ c.if-count-b.false c.searching.ensures.0 e, c.searching.ensures.1, c.searching.ensures.2)
