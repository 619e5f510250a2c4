use Rattle.index_fill.proofs.Columns.{cleared}
use Rattle.index_fill.proofs.clear.Goals as goal

pub returns : goal.returns
returns c = cleared c.args.ix.now c.fill.new.self c.told-ix (c.fill.ensures.after (λ y h. h))
