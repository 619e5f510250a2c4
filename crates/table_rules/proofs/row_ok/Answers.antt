use Rattle.parlog.specs.Tables.{procs_of}
use Rattle.parlog.specs.Program.{program_of}
use Rattle.table_rules.proofs.Rules.{row-own, row-kin, row-rest}
use Rattle.table_rules.proofs.row_ok.Goals as goal

pub returns-then-not-own : goal.returns-then-not-own
returns-then-not-own c = row-own (program_of c.args.image.now.bytes.now c.args.image.now.relations c.args.image.now.clauses) (procs_of c.args.procs.now.bytes.now c.args.procs.now.count) c.args.n c.args.i c.get-x.ensures c.own_ok-own.ensures (c.if-not-own.true)

pub returns-then-not-kin : goal.returns-then-not-kin
returns-then-not-kin c = row-kin (program_of c.args.image.now.bytes.now c.args.image.now.relations c.args.image.now.clauses) (procs_of c.args.procs.now.bytes.now c.args.procs.now.count) c.args.n c.args.i c.get-x.ensures c.own_ok-own.ensures (c.if-not-own.false) c.kin_ok-kin.ensures (c.if-not-kin.true)

pub returns : goal.returns
returns c = row-rest (program_of c.args.image.now.bytes.now c.args.image.now.relations c.args.image.now.clauses) (procs_of c.args.procs.now.bytes.now c.args.procs.now.count) c.args.n c.args.i c.get-x.ensures c.own_ok-own.ensures (c.if-not-own.false) c.kin_ok-kin.ensures (c.if-not-kin.false) c.placed_ok.ensures
