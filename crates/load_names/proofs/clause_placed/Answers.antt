use Rattle.parlog.specs.Names.{clause_placed}
use Rattle.load_names.proofs.clause_placed.Goals as goal

pub returns : goal.returns
unfolding clause_placed
returns c = rw (c.follows.ensures, c.relation_named.ensures, c.byte_at-m.ensures.0, c.byte_at-a.ensures.0, c.byte_at-r.ensures.0)
