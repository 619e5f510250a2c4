use mathlib.Core.Path.{refl}
use borrow.Author.Rules.{rules}
use native.Mathlib.Omega.{arith}
use Rattle.rows.proofs.Tables.{procs-length}
use Rattle.tree.specs.Family.{most_rows}
use Rattle.tree.proofs.Marking.{marks-start}
use Rattle.tree.proofs.Passing.{falls-still, marks-now, marks_then, pass-end, pass-next, pass-start}
use Rattle.tree.proofs.sleep_from.Goals as goal

pub loop-q-init : goal.loop-q-init
loop-q-init c = (search rules, search rules, pass-start _ _ _ _ c.requires.4 c.requires.5, refl, marks-start _ _ _ most_rows c.requires.4 c.requires.5 (omega (arith, procs-length c.args.procs.now c.args.n)))

pub sleep_one-requires : goal.sleep_one-requires
sleep_one-requires c = let i = c.loop-q.invariant in let lt = c.loop-q-test.true in
    (search rules, search rules, search rules, falls-still _ _ _ _ _ lt i.2 c.requires.4, search rules, marks-now _ _ _ _ _ lt i.2 _ i.4)

pub loop-q-preserved : goal.loop-q-preserved
loop-q-preserved c = let i = c.loop-q.invariant in let done = c.sleep_one.ensures in
    (omega arith, omega arith, pass-next _ _ _ _ _ c.loop-q-test.true i.2 done.table, search rules, marks_then _ _ _ _ _ c.loop-q-test.true i.2 _ done.marks)

pub returns : goal.returns
returns c = pass-end _ _ _ _ _ c.loop-q.invariant.2 (omega arith)
