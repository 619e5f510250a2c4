use Rattle.lay.proofs.Laws.{lays-then}
use Rattle.trace.specs.Trace.{record_bytes}
use Rattle.trace.proofs.put_record.Goals as goal

pub returns : goal.returns
unfolding record_bytes
returns c =
    rw c.number.ensures at (lays-then (lays-then (lays-then (lays-then c.put2-at.ensures c.put2-at-2.ensures) c.put2-at-3.ensures) c.put2-at-4.ensures) c.put2.ensures)
