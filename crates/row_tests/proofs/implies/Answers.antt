use Rattle.row_tests.proofs.Laws.{or-implies}
use Rattle.row_tests.proofs.implies.Goals as goal

pub returns : goal.returns
returns c = or-implies c.args.a c.args.b
