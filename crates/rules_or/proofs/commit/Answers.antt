use Rattle.rules_or.proofs.Ways.{committed}
use Rattle.rules_or.proofs.commit.Goals as goal

pub returns : goal.returns
returns c = (λ vs. committed _ vs _ _ c.get-y.ensures c.with_clause-z.ensures c.with_spot-me.ensures c.report.ensures.0, c.report.ensures.1, c.report.ensures.2)
