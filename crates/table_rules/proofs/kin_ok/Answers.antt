use Rattle.parlog.specs.Codes.{tag_code}
use Rattle.parlog.specs.Tables.{procs_of}
use Rattle.parlog.specs.Program.{program_of}
use Rattle.table_rules.proofs.Rules.{kin-first, kin-none, kin-made}
use mathlib.Core.Path.{◌∙◌, ap, refl}
use Rattle.table_rules.proofs.kin_ok.Goals as goal

pub returns-then-i-eq0 : goal.returns-then-i-eq0
returns-then-i-eq0 c = kin-first (program_of c.args.image.now.bytes.now c.args.image.now.relations c.args.image.now.clauses) (procs_of c.args.procs.now.bytes.now c.args.procs.now.count) c.args.x c.if-i-eq0.true (c.number.ensures ∙ ap tag_code c.tag_of_goal-goal.ensures) refl refl

pub returns-then-i-parent : goal.returns-then-i-parent
returns-then-i-parent c = kin-none (program_of c.args.image.now.bytes.now c.args.image.now.relations c.args.image.now.clauses) (procs_of c.args.procs.now.bytes.now c.args.procs.now.count) c.args.x c.if-i-eq0.false c.if-i-parent.true

pub returns : goal.returns
returns c = kin-made (program_of c.args.image.now.bytes.now c.args.image.now.relations c.args.image.now.clauses) (procs_of c.args.procs.now.bytes.now c.args.procs.now.count) c.args.x c.if-i-eq0.false c.if-i-parent.false c.tag_at-up.ensures c.makes.ensures
