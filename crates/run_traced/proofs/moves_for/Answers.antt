use Rattle.run_traced.proofs.Noting.{moves-least}
use Rattle.run_traced.proofs.moves_for.Goals as goal

pub returns : goal.returns
returns c = moves-least _ _ c.min.ensures
