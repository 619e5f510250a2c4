use mathlib.Core.Path.{refl}
use Rattle.program_goal.proofs.Homes.{splits-are}
use Rattle.program_goal.proofs.splits.Goals as goal

pub returns : goal.returns
returns c = splits-are c.args.image.now.bytes.now _ _ _ c.requires.0 _ c.requires.1 c.vars_at-vars.ensures.0 c.byte_at-own.ensures.0 refl
