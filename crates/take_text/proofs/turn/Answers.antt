use Rattle.parlog.specs.declared.Progress.{Progress}
use Rattle.std.specs.Prelude.{Result, ℕ}
use mathlib.Core.Path.{◌∙◌, ap, refl}
use Rattle.take_text.specs.Turned.{turned_by}
use Rattle.take_text.proofs.turn.Goals as goal

pub returns-clause-taken : goal.returns-clause-taken
returns-clause-taken c = record { taken = c.clause-c.result; takes = c.clause-c.ensures.taken; next = c.turned.ensures ∙ ap (λ (d : Result Progress ℕ). turned_by d c.args.w c.clause-c.result) c.test-v.ensures.0; kept = rw (c.test-v.ensures.0) at c.test-v.ensures.1; semicolon = refl }
