use Rattle.take_clause.proofs.Recorded.{clause-taken, ready-start}
use Rattle.take_clause.proofs.Lines.{ends-behind}
use Rattle.take_term.specs.declared.Reading.{Reading}
use Rattle.mode_table.specs.Held.{lines_in}
use native.Mathlib.Omega.{arith}
use mathlib.Core.Path.{ap, refl}
use Rattle.take_clause.proofs.clause.Goals as goal

pub parts-x-requires : goal.parts-x-requires
parts-x-requires c = (ready-start _ _ _ _ _ c.start-w.ensures c.clause-c.ensures.terms_in c.requires.2, ap (λ (r : Reading). r.end) c.start-w.ensures, c.clause-c.ensures.guard_in, c.clause-c.ensures.body_in)

pub overflow_sub-x : goal.overflow_sub-x
overflow_sub-x c = ends-behind _ c.args.next.at 8 _ _ _ c.requires.1 (omega arith) c.start-w.ensures c.parts-x.ensures.taken

pub returns-clause-taken : goal.returns-clause-taken
returns-clause-taken c = clause-taken c.args.relations.now.text.now (lines_in c.args.relations.now) c.args.next.from c.clause-c.result c.relation_at-head.result c.clause-c.ensures c.relation_at-head.ensures c.args.next.at c.args.next.consts c.args.opens c.told.result refl c.requires.1 (rw (c.unwrap_or.ensures, c.is_some-known.ensures) at c.start-w.ensures) c.parts-x.ensures.taken c.clause_front.ensures c.told.ensures
