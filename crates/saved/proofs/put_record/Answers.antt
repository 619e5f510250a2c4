use Rattle.lay.proofs.Laws.{lays-then}
use Rattle.saved.proofs.put_record.Goals as goal

pub returns : goal.returns
returns c = rw (c.length.ensures.0, c.number.ensures.0) at (lays-then (lays-then c.put2-second.ensures c.put2-third.ensures) c.put_bytes.ensures)
