use Rattle.parlog.specs.declared.Progress.{Progress}
use Rattle.std.specs.Prelude.{Result, ℕ}
use Rattle.take_text.specs.Turned.{turned_by}
use mathlib.Core.Path.{ap, sym}
use Rattle.take_text.proofs.turned.Goals as goal

pub returns-in-Err : goal.returns-in-Err
returns-in-Err c = sym (ap (λ (d : Result Progress ℕ). turned_by d c.args.w c.args.c) c.in-Err.is)

pub returns-in-Ok : goal.returns-in-Ok
returns-in-Ok c = sym (ap (λ (d : Result Progress ℕ). turned_by d c.args.w c.args.c) c.in-Ok.is)
