use Rattle.vars.proofs.Tables.{vars-length}
use Rattle.rules_match.proofs.Ways.{equate-started, equate-writes, itself}
use Rattle.rules_match.proofs.start_equate.Goals as goal

pub start_by-requires : goal.start_by-requires
start_by-requires c = (itself c.equate_at-d.ensures, equate-writes _ _ _ _ (vars-length _ _) c.requires.1 c.equate_at-d.ensures)

pub way_of-requires : goal.way_of-requires
way_of-requires c = itself c.equate_at-d.ensures

pub returns : goal.returns
returns c = (equate-started c.equate_at-d.ensures _ _ c.way_of.ensures c.start_by.ensures.0 c.equate_move.ensures, c.start_by.ensures.1, c.start_by.ensures.2, c.start_by.ensures.3)
