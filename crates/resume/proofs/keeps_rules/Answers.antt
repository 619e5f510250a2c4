use Rattle.parlog.specs.Limits.{small}
use Rattle.resume.proofs.Resuming.{keeps-law}
use borrow.Author.Rules.{rules}
use Rattle.resume.proofs.keeps_rules.Goals as goal

pub returns : goal.returns
unfolding small
returns c = keeps-law _ _ _ _ c.lent_ok.ensures c.restore.ensures (search rules) (search rules)
