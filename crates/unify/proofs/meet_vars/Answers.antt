use borrow.Author.Tests.{le-ltb, lt-ltb}
use Rattle.parlog.specs.Unify.{meet_vars}
use Rattle.unify.proofs.meet_vars.Goals as goal

pub returns-then-v-w : goal.returns-then-v-w
unfolding meet_vars
returns-then-v-w c = simp (lt-ltb _ _ c.if-v-w.true)

pub returns-then-w-v : goal.returns-then-w-v
unfolding meet_vars
returns-then-w-v c = simp (le-ltb _ _ c.if-v-w.false, lt-ltb _ _ c.if-w-v.true)

pub returns : goal.returns
unfolding meet_vars
returns c = simp (le-ltb _ _ c.if-v-w.false, le-ltb _ _ c.if-w-v.false)
