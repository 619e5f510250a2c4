use Prim.Native.Nat.{◌*◌}
use native.Mathlib.Omega.{arith}
use borrow.Author.Rules.{rules}
use Rattle.saved.specs.Form.{variable_record}
use Rattle.saved.proofs.Bytes.{from-part, variable-record-length}
use Rattle.saved.proofs.Written.{stack-none, stack-step}
use Rattle.saved.proofs.put_variables.Goals as goal

pub loop-i-init : goal.loop-i-init
loop-i-init c = (search rules, stack-none (variable_record c.args.vars.now) c.args.out.now c.args.at)

pub loop-i-preserved : goal.loop-i-preserved
unfolding variable_record
loop-i-preserved c = let i = c.loop-i.invariant in
    let p = from-part c.args.vars.now (c.loop-i.i * 4) 4 (omega arith) in
    let b = stack-step (variable_record c.args.vars.now) c.args.out.now c.args.at c.loop-i.i 8 (variable-record-length c.args.vars.now c.loop-i.i) i.1 (rw p c.put_record-next.ensures) in
    (omega (arith, b.0), b.1)
