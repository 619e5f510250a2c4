use Rattle.move_write.proofs.Writers.{applied-procs, applied-vars}
use Rattle.move_plan.specs.Plans.{delta_of}
use Rattle.move_write.proofs.write.Goals as goal

pub returns : goal.returns
returns c = (applied-procs c.args.procs.now c.args.vars.now c.args.n c.args.m c.args.p (delta_of c.args.plan) c.write_procs.ensures, applied-vars c.args.procs.now c.args.vars.now c.args.n c.args.m c.args.p (delta_of c.args.plan) c.write_vars.ensures)
