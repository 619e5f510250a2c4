use Rattle.rules_or.proofs.Ways.{first-commits, none_first}
use Rattle.rules_or.proofs.wait_or_search.Goals as goal

pub returns-in_default : goal.returns-in_default
returns-in_default c = (λ pr vs. none_first _ _ _ pr vs c.requires.2.lowest c.requires.2.hopeless c.in_default.is c.or_search_none.ensures.0, c.or_search_none.ensures.1, c.or_search_none.ensures.2)

pub returns : goal.returns
returns c = (λ pr vs. first-commits _ _ _ pr vs c.requires.2.lowest c.in-Some.is (c.commit.ensures.0 vs), c.commit.ensures.1, c.commit.ensures.2)
