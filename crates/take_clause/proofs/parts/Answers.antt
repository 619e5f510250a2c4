use Rattle.take_clause.proofs.Recorded.{parts-taken}
use Rattle.take_term.proofs.Laws.{takes-ready}
use Rattle.mode_table.specs.Held.{lines_in}
use mathlib.Core.List.{[]}
use Rattle.take_clause.proofs.parts.Goals as goal

pub part-b-requires : goal.part-b-requires
part-b-requires c = (takes-ready (c.terms-a.ensures.taken []), c.requires.2)

pub part-requires : goal.part-requires
part-requires c = (takes-ready c.part-b.ensures.taken, c.requires.3)

pub returns-clause-taken : goal.returns-clause-taken
returns-clause-taken c = parts-taken (lines_in c.args.relations.now) c.args.c c.requires.1 c.terms-a.ensures.taken c.part-b.ensures.taken c.part.ensures.taken
