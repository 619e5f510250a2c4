use Rattle.parlog.specs.Tables.{procs_of}
use Rattle.children.specs.Notes.{Noted}
use Rattle.children.proofs.asked.Given as goal

abbrev pub invariant-loop-q : goal.invariant-loop-q
invariant-loop-q l = Noted (procs_of l.procs.bytes.now l.procs.count) l.p l.q l.x
