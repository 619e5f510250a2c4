use Rattle.rules_or.proofs.Ways.{par-bad, par-good, par-silent}
use Rattle.rules_or.proofs.wait_or_par.Goals as goal

pub returns-in-Silent : goal.returns-in-Silent
returns-in-Silent c = (λ vs. par-silent _ _ _ vs _ _ c.requires.2.latest c.in-Silent.is c.none.ensures.0, c.none.ensures.1, c.none.ensures.2)

pub returns-in-Good : goal.returns-in-Good
returns-in-Good c = (λ vs. par-good _ _ _ vs _ _ c.requires.2.latest c.in-Good.is (c.or_par_heard.ensures.0 vs), c.or_par_heard.ensures.1, c.or_par_heard.ensures.2)

pub returns-in-Bad : goal.returns-in-Bad
returns-in-Bad c = (λ vs. par-bad _ _ _ vs _ _ c.requires.2.latest c.in-Bad.is c.report.ensures.0, c.report.ensures.1, c.report.ensures.2)
