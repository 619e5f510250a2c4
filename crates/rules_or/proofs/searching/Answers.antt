use Rattle.rules_or.proofs.Ways.{searching-made}
use Rattle.rules_or.proofs.searching.Goals as goal

pub returns : goal.returns
returns c = (searching-made _ _ _ _ c.at_block-here.ensures c.with_spot-me.ensures c.block_spot-z.ensures c.new_process-y.ensures c.make_one.ensures.0, c.make_one.ensures.1, c.make_one.ensures.2)
