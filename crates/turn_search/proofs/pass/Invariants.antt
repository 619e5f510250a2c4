use Rattle.parlog.specs.Tables.{procs_of}
use Rattle.move_plan.specs.Plans.{state_in}
use Rattle.turn_search.specs.Notes.{AllNoted}
use Rattle.turn_search.proofs.Order.{Swept}
use Rattle.turn_search.proofs.pass.Given as goal

abbrev pub invariant-loop-q : goal.invariant-loop-q
invariant-loop-q g l = AllNoted (procs_of l.procs.bytes.now l.procs.count) l.procs.count l.q l.notes × Swept (state_in l.procs.bytes.now l.procs.count l.vars.bytes.now l.vars.count) l.procs.count l.last l.q l.behind l.round
