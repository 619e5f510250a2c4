use Rattle.table_rules.proofs.Whole.{cell-is}
use borrow.Author.Rules.{rules}
use Rattle.table_rules.proofs.cell_ok.Goals as goal

pub returns : goal.returns
returns c = cell-is c.args.vars.now.bytes.now c.args.vars.now.count c.args.v (search rules) c.join-number.ensures c.cell_ok.ensures
