use Prim.Native.Nat.{◌*◌}
use native.Mathlib.Omega.{arith}
use borrow.Author.Rules.{rules}
use Rattle.saved.specs.Form.{process_record}
use Rattle.saved.proofs.Bytes.{from-part, process-record-length}
use Rattle.saved.proofs.Written.{stack-none, stack-step}
use Rattle.saved.proofs.put_processes.Goals as goal

pub loop-i-init : goal.loop-i-init
loop-i-init c = (search rules, stack-none (process_record c.args.procs.now) c.args.out.now c.args.at)

pub loop-i-preserved : goal.loop-i-preserved
unfolding process_record
loop-i-preserved c = let i = c.loop-i.invariant in
    let p = from-part c.args.procs.now (c.loop-i.i * 24) 24 (omega arith) in
    let b = stack-step (process_record c.args.procs.now) c.args.out.now c.args.at c.loop-i.i 28 (process-record-length c.args.procs.now c.loop-i.i) i.1 (rw p c.put_record-next.ensures) in
    (omega (arith, b.0), b.1)
