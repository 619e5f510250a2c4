use borrow.Author.Rules.{rules}
use Rattle.parlog.specs.Tables.{vars_in}
use Rattle.values.proofs.Laws.{value-small, values-none, values-put}
use Rattle.unify.proofs.Bounds.{var-top}
use Rattle.values.proofs.write.Goals as goal

pub loop-v-init : goal.loop-v-init
loop-v-init c = values-none _ _

pub value_of-seen-requires : goal.value_of-seen-requires
value_of-seen-requires c = var-top _ _ _ c.loop-v-test.true c.requires.0

pub put_bound-requires : goal.put_bound-requires
put_bound-requires c = (search rules, value-small _ c.requires.3 _ _ c.loop-v-test.true c.requires.1 c.value_of-seen.ensures)

pub loop-v-preserved : goal.loop-v-preserved
loop-v-preserved c =
    values-put (vars_in c.args.vars.now.bytes.now c.args.vars.now.count) c.args.values.now c.loop-v.v c.args.goal c.loop-v.invariant c.loop-v-test.true c.requires.2 c.value_of-seen.ensures c.put_bound.ensures
