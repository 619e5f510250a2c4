use Prim.Native.Nat.{◌*◌, ◌+◌}
use native.Mathlib.Omega.{arith}
use borrow.Author.Rules.{rules}
use lib.ListN.{length}
use Rattle.saved.specs.Restored.{process_in, rows_in}
use Rattle.saved.proofs.Written.{part-laid, process-in-length, rows-laid, table-begin, table_done}
use Rattle.saved.proofs.take_processes.Goals as goal

pub loop-i-init : goal.loop-i-init
loop-i-init c = table-begin (process_in c.args.s.now) c.args.procs.now _ _ (search rules) (search rules) c.wipe.ensures

pub loop-i-preserved : goal.loop-i-preserved
loop-i-preserved c =
    rows-laid (process_in c.args.s.now) 24 (process-in-length c.args.s.now) _ c.loop-i.i c.loop-i.invariant (part-laid c.args.s.now _ (18 + c.loop-i.i * 28 + 4) (c.loop-i.i * 24) 24 c.copy_from_slice.ensures.after (omega arith) (omega arith))

pub returns : goal.returns
unfolding rows_in
returns c =
    table_done (process_in c.args.s.now) 24 (process-in-length c.args.s.now) _ (length c.args.procs.now) c.loop-i.i c.args.n (search rules) c.loop-i.invariant (search rules) (search rules) (omega arith)
