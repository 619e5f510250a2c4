use mathlib.Core.Path.{ap, sym}
use Rattle.parlog.specs.Tables.{process_at}
use Rattle.parlog.specs.declared.Process.{Process}
use Rattle.rows.proofs.Tables.{procs-at}
use Rattle.tree.proofs.mode.Goals as goal

pub returns : goal.returns
unfolding process_at
returns c = sym (ap (λ (x : Process). x.mode) (procs-at c.args.procs.now.bytes.now _ _ c.requires))
