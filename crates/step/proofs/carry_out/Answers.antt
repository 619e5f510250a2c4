use native.Mathlib.Omega.{arith}
use Rattle.parlog.proofs.Limits.{small-usable}
use Rattle.step.proofs.Deciding.{head-asks, write-asks}
use Rattle.step.proofs.Stepping.{carried-out}
use Rattle.step.proofs.carry_out.Goals as goal

pub write-requires : goal.write-requires
write-requires c = write-asks _ _ _ _ c.requires c.proc_count-n.ensures.0 c.var_count-m.ensures.0

pub overflow_add-m : goal.overflow_add-m
overflow_add-m c = omega (arith, (head-asks _ _ _ _ c.requires c.proc_count-n.ensures.0 c.var_count-m.ensures.0 small-usable).2)

pub put_head-requires : goal.put_head-requires
put_head-requires c = head-asks _ _ _ _ c.requires c.proc_count-n.ensures.0 c.var_count-m.ensures.0 small-usable

pub returns : goal.returns
returns c = carried-out _ _ _ c.proc_count-n.ensures.0 c.var_count-m.ensures.0 c.marker_steps.ensures c.count-steps.ensures c.write.ensures.0 c.write.ensures.1 c.put_head.ensures (λ b. omega (arith, c.type_inv.procs b)) (λ b. omega (arith, c.type_inv.vars b))
