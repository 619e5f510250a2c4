use Prim.Native.Nat.{◌*◌, ◌+◌, ◌-◌}
use mathlib.Core.Path.{◌≡◌}
use mathlib.Core.List.{append_assoc}
use lib.Seq.{drop-drop}
use native.Mathlib.Omega.{arith}
use Rattle.parlog.specs.Tables.{row_size}
use Rattle.rows.specs.Rows.{put_row}
use Rattle.rows.proofs.put_row.Goals as goal

pub returns : goal.returns
unfolding put_row
returns c =
    let b = c.args.i * row_size in
    let e : b + row_size - b ≡ row_size = omega arith in
    rw (e, c.copy_from_slice.ensures.after, drop-drop row_size b, append_assoc)
