use Rattle.saved.proofs.Faults.{cut-long, cut_short}
use mathlib.Core.Path.{refl}
use Rattle.saved.proofs.cut.Goals as goal

pub returns-then-rest-lt-RECORD_BODY : goal.returns-then-rest-lt-RECORD_BODY
returns-then-rest-lt-RECORD_BODY c = cut_short c.args.s.now c.args.at c.requires c.if-rest-lt-RECORD_BODY.true

pub returns : goal.returns
returns c = cut-long c.args.s.now c.args.at c.requires c.if-rest-lt-RECORD_BODY.false c.word_in-w.ensures.0 refl
