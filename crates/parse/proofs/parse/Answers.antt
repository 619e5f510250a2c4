use mathlib.Core.Path.{◌∙◌, sym}
use Rattle.parse.proofs.Called.{parse-spelled, parse-stuck, tells}
use Rattle.parse.proofs.parse.Goals as goal

pub returns-in-Ok : goal.returns-in-Ok
returns-in-Ok c = parse-spelled c.args.image.now c.args.names.now c.args.text.now (sym c.spelling.ensures ∙ c.in-Ok.is) c.spelled.ensures

pub returns-in-Err : goal.returns-in-Err
returns-in-Err c = tells (parse-stuck c.args.image.now c.args.names.now c.args.text.now _ (sym c.spelling.ensures ∙ c.in-Err.is))
