use mathlib.Core.Path.{refl}
use borrow.Author.Rules.{rules}
use lib.Seq.{take_all}
use Rattle.parlog.specs.Unify.{change}
use Rattle.parlog.specs.declared.Term.TheVariants.{Const}
use Rattle.move_write.proofs.Writers.{bind-next, bind-start, within-made}
use Rattle.move_write.proofs.bind_all.Goals as goal

pub loop-c-init : goal.loop-c-init
loop-c-init c = bind-start _ _ c.made-c-items.result.now

pub bind-requires : goal.bind-requires
bind-requires c = let w = within-made _ c.args.changes c.requires.1 c.loop-c.c-index (rw c.made-c-items.ensures at c.loop-c-test.true) in (search rules, rw c.made-c-items.ensures w.0, rw c.made-c-items.ensures w.1)

pub loop-c-preserved : goal.loop-c-preserved
loop-c-preserved c = bind-next _ _ _ c.made-c-items.result.now c.loop-c.c-index c.loop-c-test.true c.loop-c.invariant _ (change 0 (Const 0)) refl refl c.bind.ensures

pub returns : goal.returns
returns c = rw (← c.made-c-items.ensures) (rw (take_all c.loop-c.c-index c.made-c-items.result.now c.loop-c-test.false) at c.loop-c.invariant)
