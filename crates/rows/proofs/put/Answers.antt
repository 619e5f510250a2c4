use Rattle.rows.proofs.Tables.{table-put}
use Rattle.rows.specs.Rows.{put_process}
use native.Mathlib.Omega.{arith}
use Rattle.rows.proofs.put.Goals as goal

pub returns : goal.returns
unfolding put_process
returns c =
    let e = c.encode-row.ensures in
    rw (c.put_row.ensures, e.0) (table-put c.args.procs.now c.args.n c.args.i c.args.x (omega arith) (omega arith) e.1)
