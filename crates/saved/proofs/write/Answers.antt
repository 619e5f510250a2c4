use native.Mathlib.Omega.{arith}
use Rattle.parlog.specs.Tables.{lent}
use Rattle.saved.proofs.Written.{head-place, processes-place, whole-laid}
use Rattle.saved.proofs.write.Goals as goal

pub put_processes-second-requires : goal.put_processes-second-requires
put_processes-second-requires c = let s = c.args in
    let p = c.requires in
    let e = head-place s.out.now s.head.now s.image c.put_head-first.ensures in
    let n = c.proc_count-n.ensures in
    (omega arith, n.1, omega (arith, n.0, p.1))

pub put_variables-requires : goal.put_variables-requires
put_variables-requires c = let s = c.args in
    let p = c.requires in
    let e = head-place s.out.now s.head.now s.image c.put_head-first.ensures in
    let f = processes-place _ s.procs.now _ _ c.put_processes-second.ensures in
    let n = c.proc_count-n.ensures in
    let m = c.var_count-m.ensures in
    (omega (arith, n.1), m.1, omega (arith, m.0, p.2))

pub returns : goal.returns
returns c = let s = c.args in
    whole-laid (lent s.head.now s.procs.now s.vars.now) s.image c.proc_count-n.ensures.0 c.var_count-m.ensures.0 c.put_head-first.ensures c.put_processes-second.ensures c.put_variables.ensures
