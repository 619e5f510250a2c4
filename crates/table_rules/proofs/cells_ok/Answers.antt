use native.Mathlib.Omega.{arith}
use mathlib.Core.Path.{◌∙◌, sym}
use Rattle.table_rules.proofs.Whole.{cells-both, down-none, down_step, down-stop}
use Rattle.table_rules.proofs.cells_ok.Goals as goal

pub returns-then-not-ok : goal.returns-then-not-ok
returns-then-not-ok c = sym (sym (cells-both c.args.vars.now.bytes.now c.args.vars.now.count c.args.vars.now.count) ∙ c.loop-q.invariant ∙ down-stop _ c.loop-q.q (omega arith) c.cell_ok-ok.ensures c.if-not-ok.true)

pub loop-q-preserved : goal.loop-q-preserved
loop-q-preserved c = c.loop-q.invariant ∙ down_step _ c.loop-q.q (omega arith) c.cell_ok-ok.ensures c.if-not-ok.false

pub returns : goal.returns
returns c = sym (sym (cells-both c.args.vars.now.bytes.now c.args.vars.now.count c.args.vars.now.count) ∙ c.loop-q.invariant ∙ down-none _ c.loop-q.q (omega arith))
