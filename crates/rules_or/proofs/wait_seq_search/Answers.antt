use Rattle.rules_or.proofs.Ways.{seq-bad, seq-good, seq-silent}
use Rattle.rules_or.proofs.wait_seq_search.Goals as goal

pub returns-in-Silent : goal.returns-in-Silent
returns-in-Silent c = (λ vs. seq-silent _ _ _ vs _ _ c.requires.3.latest c.in-Silent.is c.none.ensures.0, c.none.ensures.1, c.none.ensures.2)

pub returns-in-Good : goal.returns-in-Good
returns-in-Good c = (λ vs. seq-good _ _ _ vs _ _ c.requires.3.latest c.in-Good.is (c.commit.ensures.0 vs), c.commit.ensures.1, c.commit.ensures.2)

pub returns-in-Bad : goal.returns-in-Bad
returns-in-Bad c = (λ vs. seq-bad _ _ _ vs _ _ c.requires.3.latest c.in-Bad.is c.next_block.ensures.0, c.next_block.ensures.1, c.next_block.ensures.2)
