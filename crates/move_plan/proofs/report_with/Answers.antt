use mathlib.Core.Path.{refl}
use borrow.Author.Rules.{rules}
use Rattle.move_plan.specs.Plans.{applied_of, delta_of}
use Rattle.parlog.specs.Delta.{with_result}
use Rattle.rows.proofs.Tables.{procs-none}
use Rattle.move_plan.proofs.report_with.Goals as goal

pub returns : goal.returns
unfolding applied_of delta_of with_result
returns c = (rw (procs-none, c.number.ensures, c.number-2.ensures), search rules, refl, refl)
