use Rattle.rules_or.proofs.Ways.{first_block, no_block}
use Rattle.rules_or.proofs.start_seq_search.Goals as goal

pub returns-then-count-eq0 : goal.returns-then-count-eq0
returns-then-count-eq0 c = (λ s e. no_block _ s _ _ c.blocks-count.ensures.0 c.if-count-eq0.true c.report.ensures.0, c.report.ensures.1, c.report.ensures.2)

pub returns : goal.returns
returns c = (λ s e. first_block _ s _ _ c.blocks-count.ensures.0 c.if-count-eq0.false c.searching.ensures.0 e, c.searching.ensures.1, c.searching.ensures.2)
