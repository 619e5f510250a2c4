use Rattle.declared_calls.proofs.Clearing.{clear-all}
use Rattle.declared_calls.proofs.clear.Goals as goal

pub returns : goal.returns
returns c = clear-all c.requires (c.fill.ensures.after (λ y e. e))
