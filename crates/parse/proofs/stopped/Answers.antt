use Rattle.std.specs.Prelude.{Err}
use mathlib.Core.Path.{ap}
use Rattle.parse.proofs.Stops.{stop-no, stop-yes}
use Rattle.parse.proofs.stopped.Goals as goal

pub returns-then-declared : goal.returns-then-declared
returns-then-declared c = ap Err (stop-yes c.args.declared c.args.number c.args.at c.if-declared.true)

pub returns : goal.returns
returns c = ap Err (stop-no c.args.declared c.args.number c.args.at c.if-declared.false)
