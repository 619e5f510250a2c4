use Rattle.parlog.specs.Load.{block_full}
use Rattle.load.proofs.Late.{none-full}
use Rattle.load.proofs.block_full.Goals as goal

pub returns-in_default : goal.returns-in_default
returns-in_default c = none-full _ _ _ _ c.in_default.not-Clause

pub returns : goal.returns
unfolding block_full
returns c = rw (c.in-Clause.is, c.block_with.ensures, c.byte_at-m.ensures.0, c.byte_at-r.ensures.0)
