use borrow.Author.Rules.{rules}
use Rattle.bound_row.proofs.Rows.{size_is}
use Rattle.bound_row.proofs.size_of.Goals as goal

pub returns : goal.returns
returns c = size_is _ (search rules)
