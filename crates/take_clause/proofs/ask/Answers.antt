use Rattle.take_clause.proofs.Recorded.{ask-taken, ready-start}
use Rattle.take_clause.proofs.Lines.{ends-behind}
use Rattle.mode_table.specs.Held.{lines_in}
use native.Mathlib.Omega.{arith}
use mathlib.Core.Path.{refl}
use Rattle.take_clause.proofs.ask.Goals as goal

pub body-x-requires : goal.body-x-requires
body-x-requires c = ready-start _ _ _ _ _ c.start-w.ensures c.requires.0 c.requires.2

pub overflow_sub-x : goal.overflow_sub-x
overflow_sub-x c = ends-behind _ c.args.next.at 5 _ _ _ c.requires.1 (omega arith) c.start-w.ensures c.body-x.ensures.taken

pub returns-clause-taken : goal.returns-clause-taken
returns-clause-taken c = ask-taken c.args.relations.now.text.now (lines_in c.args.relations.now) c.args.next.from c.args.next.at c.args.next.consts c.body-body.result c.told.result refl c.requires.1 c.body-body.ensures c.start-w.ensures c.body-x.ensures.taken c.ask_front.ensures c.told.ensures
