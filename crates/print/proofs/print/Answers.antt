use mathlib.Core.Path.{sym, ◌∙◌}
use Rattle.std.proofs.lemmas.Result.{err_from_is_err_and}
use Rattle.print.proofs.Called.{print-loaded, print-refused}
use Rattle.print.proofs.print.Goals as goal

pub returns-in_err-r : goal.returns-in_err-r
returns-in_err-r c = let p = err_from_is_err_and c.from_residual.result c.from_residual.ensures.1 in rw (p.1, p.2) (print-refused c.args.text.now c.args.image.now c.args.names.now _ (sym c.load.ensures.value ∙ c.in_err-r.was))

pub returns : goal.returns
returns c = print-loaded c.args.text.now c.args.image.now c.args.names.now _ _ (sym c.load.ensures.value ∙ c.in_ok-r.was) c.accepted.ensures
