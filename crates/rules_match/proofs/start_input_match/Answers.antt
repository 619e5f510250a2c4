use Rattle.vars.proofs.Tables.{vars-length}
use Rattle.rules_match.proofs.Ways.{itself, match-started, match-writes}
use Rattle.rules_match.proofs.start_input_match.Goals as goal

pub start_by-requires : goal.start_by-requires
start_by-requires c = (itself c.match_at-d.ensures, match-writes _ _ _ (vars-length _ _) c.requires.1 c.match_at-d.ensures)

pub way_of-requires : goal.way_of-requires
way_of-requires c = itself c.match_at-d.ensures

pub returns : goal.returns
returns c = (match-started c.match_at-d.ensures _ _ c.way_of.ensures c.start_by.ensures.0 c.match_move.ensures, c.start_by.ensures.1, c.start_by.ensures.2, c.start_by.ensures.3)
