use Rattle.parlog.specs.Records.{cut}
use Rattle.records.proofs.cut.Goals as goal

pub returns : goal.returns
unfolding cut
returns c = rw c.word_at-w.ensures.0
