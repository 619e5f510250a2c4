use borrow.Author.Rules.{rules}
use Rattle.vars.proofs.Tables.{vars-length}
use Rattle.rules_match.proofs.Ways.{args_fit, arity-few, head-fit, match-way, outs-fit}
use Rattle.rules_match.proofs.match_at.Goals as goal

pub invariant_of-call : goal.invariant_of-call
invariant_of-call c = record { few = arity-few _ _ _ (vars-length _ _) c.requires.1 c.literal-l.ensures.0 c.four_modes-modes.ensures c.mode_count-count.ensures.0 c.min-arity.ensures }

pub match_of-requires : goal.match_of-requires
match_of-requires c = (search rules, args_fit _ _ _ (vars-length _ _) c.requires.1 c.literal-l.ensures.0, head-fit _ _ _ (vars-length _ _) c.requires.1 c.literal-l.ensures.0 c.four_terms-head.ensures, outs-fit _ _ _ (vars-length _ _) c.requires.1 c.literal-l.ensures.0 c.four_modes-modes.ensures c.mode_count-count.ensures.0 c.min-arity.ensures c.clause_vars-own.ensures.0)

pub returns : goal.returns
returns c = match-way _ _ _ (vars-length _ _) c.requires.1 c.literal-l.ensures.0 c.four_modes-modes.ensures c.mode_count-count.ensures.0 c.min-arity.ensures c.four_terms-head.ensures c.clause_vars-own.ensures.0 c.match_of.ensures
