use mathlib.Core.Path.{◌∙◌}
use borrow.Author.Rules.{rules}
use native.Mathlib.Omega.{arith}
use Rattle.unify.proofs.Laws.{few-made}
use Rattle.bound_row.proofs.Rows.{tell-done, tell-more, tell-start}
use Rattle.bound_row.proofs.tell.Goals as goal

pub put2-at-requires-in-loop-c : goal.put2-at-requires-in-loop-c
put2-at-requires-in-loop-c c = let l = rw c.made-c-items.ensures at c.loop-c-test.true in omega (arith, l, few-made c.args.changes, c.loop-c.invariant.0)

pub loop-c-preserved : goal.loop-c-preserved
loop-c-preserved c =
    (omega (arith, c.put2-at-in-loop-c.ensures.place, c.loop-c.invariant.0), tell-more _ _ _ _ c.loop-c.invariant.1 _ c.loop-c-test.true c.put2-at-in-loop-c.ensures)

pub returns : goal.returns
returns c = tell-done _ _ _ _ c.loop-c.invariant.1 c.loop-c-test.false ∙ rw c.made-c-items.ensures (tell-start _ (search rules) _ c.put2-at.ensures)
