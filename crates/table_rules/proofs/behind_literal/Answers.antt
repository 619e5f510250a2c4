use Rattle.parlog.specs.Program.{program_of}
use Rattle.table_rules.proofs.Places.{literal-equality, literal-none, literal-call}
use Rattle.table_rules.proofs.behind_literal.Goals as goal

pub returns-then-t-gt-GUARD_EVAL : goal.returns-then-t-gt-GUARD_EVAL
returns-then-t-gt-GUARD_EVAL c = literal-equality (program_of c.args.image.now.bytes.now c.args.image.now.relations c.args.image.now.clauses) c.args.n c.args.z c.args.rel c.args.waits c.args.t c.if-t-gt-GUARD_EVAL.true

pub returns-then-rel-eq-EQUALITY : goal.returns-then-rel-eq-EQUALITY
returns-then-rel-eq-EQUALITY c = literal-none (program_of c.args.image.now.bytes.now c.args.image.now.relations c.args.image.now.clauses) c.args.n c.args.z c.args.rel c.args.waits c.args.t c.if-t-gt-GUARD_EVAL.false c.if-rel-eq-EQUALITY.true

pub returns : goal.returns
returns c = literal-call (program_of c.args.image.now.bytes.now c.args.image.now.relations c.args.image.now.clauses) c.args.n c.args.z c.args.rel c.args.waits c.args.t c.if-t-gt-GUARD_EVAL.false c.if-rel-eq-EQUALITY.false c.behind_call.ensures
