use borrow.Author.Rules.{rules}
use Rattle.vars.proofs.Tables.{vars-length}
use Rattle.rules_match.proofs.Ways.{equate-way, left-fit, right-fit}
use Rattle.rules_match.proofs.equate_at.Goals as goal

pub equate_of-requires : goal.equate_of-requires
equate_of-requires c = (search rules, left-fit _ _ _ (vars-length _ _) c.requires.1 c.literal-l.ensures.0, right-fit _ _ _ (vars-length _ _) c.requires.1 c.literal-l.ensures.0)

pub returns : goal.returns
returns c = equate-way _ _ _ _ c.literal-l.ensures.0 c.enclosing_first-bar.ensures c.equate_of.ensures
