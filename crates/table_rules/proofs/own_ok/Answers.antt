use Rattle.table_rules.proofs.Rules.{own_is}
use mathlib.Core.Path.{refl}
use Rattle.table_rules.proofs.own_ok.Goals as goal

pub returns : goal.returns
returns c = own_is c.args.n c.args.i c.args.x c.known-numbers.ensures c.result_ok-result.ensures c.notes_ok-notes.ensures refl refl
