use Rattle.rows.proofs.Tables.{procs-at, procs-past}
use mathlib.Core.Path.{sym, ap}
use Rattle.parlog.specs.Tables.{process_at}
use Rattle.parlog.specs.declared.Process.{Process}
use Rattle.rows.proofs.Processes.mode_at.Goals as goal

pub returns-then-i-self : goal.returns-then-i-self
unfolding process_at
returns-then-i-self c = sym (ap (λ (x : Process). x.mode) (procs-at c.args.self.now.bytes.now _ _ c.if-i-self.true))

pub returns : goal.returns
returns c = sym (ap (λ (x : Process). x.mode) (procs-past c.args.self.now.bytes.now _ _ c.if-i-self.false))
