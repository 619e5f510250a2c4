use Rattle.bound_row.proofs.Rows.{tell-only}
use Rattle.bound_row.proofs.tell_one.Goals as goal

pub returns : goal.returns
returns c = tell-only _ _ c.put2-at.ensures c.put2.ensures
