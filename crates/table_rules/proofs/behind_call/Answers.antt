use Rattle.parlog.specs.Program.{program_of}
use Rattle.table_rules.proofs.Places.{call-block, call_none, call-try}
use mathlib.Core.Path.{refl}
use Rattle.table_rules.proofs.behind_call.Goals as goal

pub returns-then-t-waits : goal.returns-then-t-waits
returns-then-t-waits c = call-block (program_of c.args.image.now.bytes.now c.args.image.now.relations c.args.image.now.clauses) c.args.n c.args.z c.args.rel c.args.waits c.args.t refl refl c.if-t-waits.true c.block_count-count.ensures.0

pub returns-then-t-lt-OR_SEARCH : goal.returns-then-t-lt-OR_SEARCH
returns-then-t-lt-OR_SEARCH c = call_none (program_of c.args.image.now.bytes.now c.args.image.now.relations c.args.image.now.clauses) c.args.n c.args.z c.args.rel c.args.waits c.args.t refl refl c.if-t-waits.false c.if-t-lt-OR_SEARCH.true

pub returns : goal.returns
returns c = call-try (program_of c.args.image.now.bytes.now c.args.image.now.relations c.args.image.now.clauses) c.args.n c.args.z c.args.rel c.args.waits c.args.t refl refl c.if-t-waits.false c.if-t-lt-OR_SEARCH.false c.clause_in-found.ensures c.clause_relation-own.ensures.0 refl
