use Rattle.values.proofs.Laws.{gather-all, gather-short}
use Rattle.values.proofs.gather.Goals as goal

pub returns-then-values-goal : goal.returns-then-values-goal
returns-then-values-goal c = gather-short _ _ _ c.goal_vars-goal.ensures.0 c.if-values-goal.true c.refusal.ensures

pub returns : goal.returns
returns c =
    let n = c.var_count.ensures.0 in
    gather-all _ _ _ c.goal_vars-goal.ensures.0 c.if-values-goal.false (rw n at c.write.ensures)
