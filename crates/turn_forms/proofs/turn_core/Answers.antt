use Rattle.turn_forms.proofs.Core.{core-away, core-turned}
use Rattle.parlog.specs.Limits.{small}
use borrow.Author.Tests.{ne_eqb}
use Rattle.turn_forms.proofs.turn_core.Goals as goal

pub returns-then-counts-ne4 : goal.returns-then-counts-ne4
returns-then-counts-ne4 c =
    let a = c.args in
    core-away small a.image.now a.counts.now a.procs.now a.vars.now (record { last = a.last; steps = a.steps }) (ne_eqb _ 4 c.if-counts-ne4.true) c.turned_away-f.ensures

pub returns : goal.returns
returns c =
    let a = c.args in
    core-turned small a.image.now a.counts.now a.procs.now a.vars.now (record { last = a.last; steps = a.steps }) c.if-counts-ne4.false c.join_head-head.ensures c.turn-answer.ensures c.put_counts.ensures c.hand_back.ensures
