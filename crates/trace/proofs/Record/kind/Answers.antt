use Rattle.std.proofs.Common.{◌∙◌, sym}
use Rattle.trace.proofs.Laws.{kind-none, kind-some}
use Rattle.trace.proofs.Record.kind.Goals as goal

pub returns-in-Some : goal.returns-in-Some
returns-in-Some c = kind-some _ c.number.ensures.0 (sym c.in-Some.is ∙ c.of.ensures)

pub returns-in-None : goal.returns-in-None
returns-in-None c = kind-none _ c.number.ensures.0 (sym c.in-None.is ∙ c.of.ensures)
