use Rattle.table_rules.proofs.Whole.{size_is}
use mathlib.Core.Path.{refl}
use Rattle.table_rules.proofs.full_size.Goals as goal

pub returns : goal.returns
returns c = size_is c.args.most c.args.cap c.args.head.now c.args.procs.now c.args.vars.now refl refl
