use Rattle.parlog.specs.Unify.{pair_of}
use Rattle.decide.proofs.pair_at.Goals as goal

pub shift-requires : goal.shift-requires
shift-requires c = c.requires.1

pub head_side-requires : goal.head_side-requires
head_side-requires c = (c.requires.2, c.requires.3)

pub returns : goal.returns
unfolding pair_of
returns c = rw (c.shift.ensures, c.head_side.ensures)
