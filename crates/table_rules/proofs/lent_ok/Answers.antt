use Rattle.parlog.specs.Program.{program_of}
use Rattle.table_rules.proofs.Whole.{cells_fit, head-fits, lent-counts, lent-rest, lent-size, rows_fit}
use mathlib.Core.Path.{refl}
use native.Mathlib.Omega.{arith}
use Rattle.table_rules.proofs.lent_ok.Goals as goal

pub returns-then-not-full : goal.returns-then-not-full
returns-then-not-full c = lent-size c.args.most c.args.cap (program_of c.args.image.now.bytes.now c.args.image.now.relations c.args.image.now.clauses) c.args.head.now c.args.procs.now c.args.vars.now c.full_size-full.ensures (c.if-not-full.true)

pub prove-unreachable-requires : goal.prove-unreachable-requires
prove-unreachable-requires c =
    let h = head-fits c.args.most c.args.cap (program_of c.args.image.now.bytes.now c.args.image.now.relations c.args.image.now.clauses) c.args.head.now c.args.procs.now c.args.vars.now c.full_size-full.ensures (c.if-not-full.false) in
    omega (arith, h, c.if-prove.true)

pub returns-then-not-counts : goal.returns-then-not-counts
returns-then-not-counts c = lent-counts c.args.most c.args.cap (program_of c.args.image.now.bytes.now c.args.image.now.relations c.args.image.now.clauses) c.args.head.now c.args.procs.now c.args.vars.now c.full_size-full.ensures (c.if-not-full.false) _ _ _ _ c.counts_ok-counts.ensures c.proc_count-count.ensures.0 c.var_count-n.ensures.0 c.marker_last-last.ensures.0 c.goal_vars-goal.ensures.0 (c.if-not-counts.true)

pub returns : goal.returns
returns c = lent-rest c.args.most c.args.cap (program_of c.args.image.now.bytes.now c.args.image.now.relations c.args.image.now.clauses) c.args.head.now c.args.procs.now c.args.vars.now c.full_size-full.ensures (c.if-not-full.false) _ _ _ _ c.counts_ok-counts.ensures c.proc_count-count.ensures.0 c.var_count-n.ensures.0 c.marker_last-last.ensures.0 c.goal_vars-goal.ensures.0 (c.if-not-counts.false) c.cells_ok-cells.ensures c.rows_ok-rows.ensures refl

pub invariant_of-used : goal.invariant_of-used
invariant_of-used c = record { whole = rows_fit c.args.most c.args.cap (program_of c.args.image.now.bytes.now c.args.image.now.relations c.args.image.now.clauses) c.args.head.now c.args.procs.now c.args.vars.now c.full_size-full.ensures (c.if-not-full.false) _ _ _ _ c.counts_ok-counts.ensures c.proc_count-count.ensures.0 c.var_count-n.ensures.0 c.marker_last-last.ensures.0 c.goal_vars-goal.ensures.0 (c.if-not-counts.false) }

pub invariant_of-cells_ok : goal.invariant_of-cells_ok
invariant_of-cells_ok c = record { whole = cells_fit c.args.most c.args.cap (program_of c.args.image.now.bytes.now c.args.image.now.relations c.args.image.now.clauses) c.args.head.now c.args.procs.now c.args.vars.now c.full_size-full.ensures (c.if-not-full.false) _ _ _ _ c.counts_ok-counts.ensures c.proc_count-count.ensures.0 c.var_count-n.ensures.0 c.marker_last-last.ensures.0 c.goal_vars-goal.ensures.0 (c.if-not-counts.false) }
