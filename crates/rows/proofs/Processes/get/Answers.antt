use Rattle.rows.proofs.Tables.{procs-at, procs-past}
use mathlib.Core.Path.{sym, ◌∙◌}
use Rattle.rows.proofs.Processes.get.Goals as goal

pub returns-then-i-self : goal.returns-then-i-self
returns-then-i-self c = c.get_process.ensures ∙ sym (procs-at c.args.self.now.bytes.now _ _ c.if-i-self.true)

pub returns : goal.returns
returns c = c.blank.ensures ∙ sym (procs-past c.args.self.now.bytes.now _ _ c.if-i-self.false)
