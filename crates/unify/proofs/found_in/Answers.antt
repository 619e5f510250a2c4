use mathlib.Core.Path.{◌∙◌}
use Rattle.unify.proofs.Laws.{latest-done, latest-more}
use Rattle.unify.proofs.found_in.Goals as goal

pub loop-c-preserved : goal.loop-c-preserved
loop-c-preserved c = latest-more _ _ c.loop-c-test.true _ _ _ c.newer-b.ensures ∙ c.loop-c.invariant

pub returns : goal.returns
returns c = rw (← c.made-c-items.ensures) (latest-done _ _ c.loop-c-test.false _ _ ∙ c.loop-c.invariant)
