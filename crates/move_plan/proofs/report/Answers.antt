use mathlib.Core.Path.{◌∙◌, ap}
use Rattle.move_plan.proofs.Plans.{reports-plain}
use Rattle.unify.specs.declared.waiting.Changes.{Changes}
use Rattle.move_plan.proofs.report.Goals as goal

pub returns : goal.returns
returns c = (reports-plain _ c.args.x c.none.result c.none.ensures.0 c.report_with.ensures.0, c.report_with.ensures.1, ap (λ (cs : Changes). cs.count) c.report_with.ensures.2 ∙ c.none.ensures.1)
