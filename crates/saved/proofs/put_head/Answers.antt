use Rattle.lay.proofs.Laws.{lays-then}
use Rattle.saved.proofs.Back.{from-take}
use Rattle.saved.specs.Form.{head_record}
use Rattle.saved.proofs.put_head.Goals as goal

pub returns : goal.returns
unfolding head_record
returns c = rw (from-take c.args.head.now 10 c.requires) (lays-then (lays-then c.put_record-last.ensures c.put2-rule.ensures) c.put2.ensures)
