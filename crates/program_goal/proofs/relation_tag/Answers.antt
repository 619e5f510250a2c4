use borrow.Author.Tests.{eq-eqb, ne_eqb}
use Rattle.program_goal.specs.Parts.{relation_tag}
use Rattle.program_goal.proofs.relation_tag.Goals as goal

pub returns-then-rel-eq-EQUALITY : goal.returns-then-rel-eq-EQUALITY
unfolding relation_tag
returns-then-rel-eq-EQUALITY c = rw (eq-eqb _ _ c.if-rel-eq-EQUALITY.true)

pub returns-else-rel-eq-EQUALITY : goal.returns-else-rel-eq-EQUALITY
unfolding relation_tag
returns-else-rel-eq-EQUALITY c = rw (ne_eqb _ _ c.if-rel-eq-EQUALITY.false)
