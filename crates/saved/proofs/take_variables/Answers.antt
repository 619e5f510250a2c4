use Prim.Native.Nat.{◌*◌, ◌+◌}
use native.Mathlib.Omega.{arith}
use borrow.Author.Rules.{rules}
use lib.ListN.{length}
use Rattle.saved.specs.Restored.{variable_in, cells_in}
use Rattle.saved.proofs.Written.{part-laid, variable-in-length, rows-laid, table-begin, table_done}
use Rattle.saved.proofs.take_variables.Goals as goal

pub loop-i-init : goal.loop-i-init
loop-i-init c = table-begin (variable_in c.args.s.now c.args.a) c.args.vars.now _ _ (search rules) (search rules) c.wipe.ensures

pub loop-i-preserved : goal.loop-i-preserved
loop-i-preserved c =
    rows-laid (variable_in c.args.s.now c.args.a) 4 (variable-in-length c.args.s.now c.args.a) _ c.loop-i.i c.loop-i.invariant (part-laid c.args.s.now _ (18 + c.args.a * 28 + c.loop-i.i * 8 + 4) (c.loop-i.i * 4) 4 c.copy_from_slice.ensures.after (omega arith) (omega arith))

pub returns : goal.returns
unfolding cells_in
returns c =
    table_done (variable_in c.args.s.now c.args.a) 4 (variable-in-length c.args.s.now c.args.a) _ (length c.args.vars.now) c.loop-i.i c.args.n (search rules) c.loop-i.invariant (search rules) (search rules) (omega arith)
