use borrow.Author.Rules.{rules}
use lib.Dec.{lit<}
use native.Mathlib.Omega.{arith}
use Rattle.decide.proofs.Pairs.{pairs-four}
use Rattle.decide.proofs.pairs_of.Goals as goal

pub pair_at-p0-requires : goal.pair_at-p0-requires
pair_at-p0-requires c = (lit< tt, c.requires.0 0 (lit< tt), c.requires.1 0 (lit< tt), omega arith)

pub pair_at-p1-requires : goal.pair_at-p1-requires
pair_at-p1-requires c = (lit< tt, c.requires.0 1 (lit< tt), c.requires.1 1 (lit< tt), omega arith)

pub pair_at-p2-requires : goal.pair_at-p2-requires
pair_at-p2-requires c = (lit< tt, c.requires.0 2 (lit< tt), c.requires.1 2 (lit< tt), omega arith)

pub pair_at-p3-requires : goal.pair_at-p3-requires
pair_at-p3-requires c = (lit< tt, c.requires.0 3 (lit< tt), c.requires.1 3 (lit< tt), omega arith)

pub returns : goal.returns
returns c = pairs-four _ _ _ _ _ _ (search rules) (search rules) (search rules) c.out_after-o1.ensures.0 c.out_after-o2.ensures.0 c.out_after-o3.ensures.0 c.pair_at-p0.ensures c.pair_at-p1.ensures c.pair_at-p2.ensures c.pair_at-p3.ensures
