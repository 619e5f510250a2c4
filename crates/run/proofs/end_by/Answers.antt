use Rattle.run.proofs.Runs.{end-one, end-other}
use Rattle.run.proofs.end_by.Goals as goal

pub returns-then-res-eq-SUCCESS : goal.returns-then-res-eq-SUCCESS
returns-then-res-eq-SUCCESS c = end-one _ c.if-res-eq-SUCCESS.true

pub returns : goal.returns
returns c = end-other _ c.if-res-eq-SUCCESS.false
