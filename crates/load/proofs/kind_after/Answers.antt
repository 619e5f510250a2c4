use Rattle.load.proofs.Late.{kind-told, no-kind}
use Rattle.load.proofs.kind_after.Goals as goal

pub returns-in_err-kind : goal.returns-in_err-kind
returns-in_err-kind c = rw c.from_residual.ensures (no-kind _ _ c.in_err-kind.ensures)

pub returns : goal.returns
returns c = rw c.then_some.ensures (kind-told _ _ _ c.in_ok-kind.ensures)
