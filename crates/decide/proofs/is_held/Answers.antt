use Rattle.decide.specs.Decision.{held_by}
use Rattle.decide.proofs.is_held.Goals as goal

pub returns : goal.returns
unfolding held_by
returns c = rw (← c.is_input.ensures)
