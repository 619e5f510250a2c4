use Rattle.load.proofs.Told.{first_stops}
use Rattle.parlog.proofs.Bools.{or-false}
use borrow.Author.Tests.{eqb-false, ltb-false}
use lib.ListN.{length}
use lib.Dec.{eqb, ltb}
use Rattle.load.proofs.first_refusal.Goals as goal

pub returns : goal.returns
returns c = let s = c.args.s.now in
    let o = or-false (eqb (length s) 0) (ltb 32768 (length s)) (rw c.is_empty.ensures at c.if-is_empty-s.false) in
    rw c.err.ensures.value (first_stops s (eqb-false (length s) 0 o.0) (ltb-false 32768 (length s) o.1) _ _ c.test_record.ensures.0 c.test_record.ensures.1)
