use Prim.Native.Nat.{◌+◌, ◌-◌}
use mathlib.Core.Path.{◌≡◌}
use mathlib.Core.List.{append_assoc}
use lib.ListN.{drop, length, length-drop, length-take}
use lib.Seq.{drop-drop}
use borrow.Rule.Slice.PartMut.{mid_of}
use native.Mathlib.Omega.{arith}
use Rattle.parlog.specs.Tables.{zeros}
use Rattle.rows.specs.Rows.{wiped}
use Rattle.rows.proofs.wipe.Goals as goal

pub returns : goal.returns
unfolding wiped zeros
returns c =
    let a = c.args in
    let t = a.table.now in
    let k = a.from + a.n - a.from in
    let e : k ≡ a.n = omega arith in
    let m : length (mid_of a.from k t) ≡ a.n = omega (arith, length-take k (drop a.from t), length-drop a.from t) in
    rw (c.fill.ensures.after (λ y h. h), m, e, drop-drop a.n a.from, append_assoc)
