use Rattle.rules_and.proofs.Ways.{seq-fails, seq-passes, seq-waits}
use Rattle.rules_and.proofs.wait_and_seq.Goals as goal

pub returns-in-Silent : goal.returns-in-Silent
returns-in-Silent c = (λ ps t. seq-waits ps _ _ t.latest c.in-Silent.is c.none.ensures.0, c.none.ensures.1, c.none.ensures.2)

pub returns-in-Good : goal.returns-in-Good
returns-in-Good c = (λ ps t. seq-passes ps _ _ t.latest c.in-Good.is c.pass_stage.ensures.0, c.pass_stage.ensures.1, c.pass_stage.ensures.2)

pub returns-in-Bad : goal.returns-in-Bad
returns-in-Bad c = (λ ps t. seq-fails ps _ _ t.latest c.in-Bad.is c.report.ensures.0, c.report.ensures.1, c.report.ensures.2)
