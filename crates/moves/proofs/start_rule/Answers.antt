use borrow.Author.Rules.{rules}
use native.Mathlib.Omega.{arith}
use Rattle.rows.proofs.Tables.{procs-length}
use Rattle.rules_match.proofs.Ways.{within_none}
use Rattle.vars.proofs.Tables.{vars-length}
use Rattle.moves.proofs.Ways.{equate-started, match-started}
use Rattle.moves.proofs.start_rule.Goals as goal

pub start_input_match-requires : goal.start_input_match-requires
start_input_match-requires c = ((let h = c.requires.1 in omega arith), c.requires.3.matching c.in-6.is)

pub start_equate-requires : goal.start_equate-requires
start_equate-requires c = ((let h = c.requires.1 in omega arith), c.requires.3.equating c.in-8.is)

pub start_tree-requires : goal.start_tree-requires
start_tree-requires c = let f = c.requires.3.members c.args.p in search rules

pub returns-in-6 : goal.returns-in-6
returns-in-6 c = (match-started _ _ _ _ _ c.in-6.is c.start_input_match.ensures.0, c.start_input_match.ensures.1, c.start_input_match.ensures.2, c.start_input_match.ensures.3)

pub returns-in-8 : goal.returns-in-8
returns-in-8 c = (equate-started _ _ _ _ _ c.in-8.is c.start_equate.ensures.0, c.start_equate.ensures.1, c.start_equate.ensures.2, c.start_equate.ensures.3)

pub returns-in_default : goal.returns-in_default
returns-in_default c = (c.start_tree.ensures.0 _ (procs-length _ _) (vars-length _ _), c.start_tree.ensures.1, (let h = c.start_tree.ensures.2 in omega arith), within_none _ c.start_tree.result c.start_tree.ensures.2)
