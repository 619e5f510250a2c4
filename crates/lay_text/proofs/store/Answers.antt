use native.Mathlib.Omega.{arith}
use mathlib.Core.List.{[], ◌∷◌}
use mathlib.Core.Path.{sym}
use Rattle.lay.proofs.Laws.{laid_one, laid-past}
use Rattle.lay_text.proofs.store.Goals as goal

pub returns-then-at-out : goal.returns-then-at-out
returns-then-at-out c = sym (laid_one _ _ _)

pub returns-else-at-out : goal.returns-else-at-out
returns-else-at-out c = sym (laid-past (c.args.byte ∷ []) c.args.out.now c.args.at (omega arith))
