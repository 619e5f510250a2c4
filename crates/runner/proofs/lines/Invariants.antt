use Rattle.parlog.specs.Tables.{vars_in}
use Rattle.runner.proofs.Telling.{Listing}
use Rattle.runner.proofs.lines.Given as goal

abbrev pub invariant-loop-v : goal.invariant-loop-v
invariant-loop-v l = Listing l.initial.text (vars_in l.vars.bytes.now l.vars.count) l.goal l.text l.v
