use Rattle.declared_calls.proofs.Classes.{all_told}
use Rattle.declared_calls.proofs.declared.Goals as goal

pub returns : goal.returns
returns c = all_told c.args.s.now c.args.m c.args.n c.args.from c.args.left c.told.ensures c.class_declared.ensures
