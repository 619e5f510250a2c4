use Rattle.rows.proofs.Laws.{bytes_of, high_in, low_in}
use borrow.Author.Rules.{rules}
use native.Mathlib.Omega.{arith}
use Rattle.rows.proofs.encode.Goals as goal

pub returns : goal.returns
returns c =
    let p = c.to_le_bytes-parent.ensures in
    let s = c.to_le_bytes-base.ensures in
    let f = c.to_le_bytes-first.ensures in
    let i = c.to_le_bytes-a.ensures in
    let j = c.to_le_bytes-b.ensures in
    let k = c.to_le_bytes-c.ensures in
    let l = c.to_le_bytes-d.ensures in (
      bytes_of _ (low_in _ p) (high_in _ (omega arith) p) (low_in _ s) (high_in _ (omega arith) s) (low_in _ f) (high_in _ (omega arith) f) (low_in _ i) (high_in _ (omega arith) i) (low_in _ j) (high_in _ (omega arith) j) (low_in _ k) (high_in _ (omega arith) k) (low_in _ l) (high_in _ (omega arith) l),
      search rules,
    )
