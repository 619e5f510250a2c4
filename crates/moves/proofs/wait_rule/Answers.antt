use borrow.Author.Rules.{rules}
use Rattle.parlog.specs.Codes.{and_par, and_seq, guard_eval, or_par, or_search, seq_search, try_clause}
use Rattle.moves.proofs.Ways.{unwaited, waited}
use Rattle.moves.proofs.wait_rule.Goals as goal

pub returns-in-0 : goal.returns-in-0
returns-in-0 c = (λ vs. waited and_par _ _ _ _ _ c.in-0.is (c.wait_and_par.ensures.0 _ c.requires.5 _ vs), c.wait_and_par.ensures.1, c.wait_and_par.ensures.2)

pub returns-in-1 : goal.returns-in-1
returns-in-1 c = (λ vs. waited and_seq _ _ _ _ _ c.in-1.is (c.wait_and_seq.ensures.0 _ c.requires.5 _ vs), c.wait_and_seq.ensures.1, c.wait_and_seq.ensures.2)

pub returns-in-2 : goal.returns-in-2
returns-in-2 c = (λ vs. waited or_par _ _ _ _ _ c.in-2.is (c.wait_or_par.ensures.0 vs), c.wait_or_par.ensures.1, c.wait_or_par.ensures.2)

pub returns-in-3 : goal.returns-in-3
returns-in-3 c = (λ vs. waited seq_search _ _ _ _ _ c.in-3.is (c.wait_seq_search.ensures.0 vs), c.wait_seq_search.ensures.1, c.wait_seq_search.ensures.2)

pub returns-in-4 : goal.returns-in-4
returns-in-4 c = (λ vs. waited or_search _ _ _ _ _ c.in-4.is (c.wait_or_search.ensures.0 _ vs), c.wait_or_search.ensures.1, c.wait_or_search.ensures.2)

pub returns-in-5 : goal.returns-in-5
returns-in-5 c = (λ vs. waited try_clause _ _ _ _ _ c.in-5.is (c.wait_try_clause.ensures.0 _ c.requires.5 _ vs), c.wait_try_clause.ensures.1, c.wait_try_clause.ensures.2)

pub returns-in-7 : goal.returns-in-7
returns-in-7 c = (λ vs. waited guard_eval _ _ _ _ _ c.in-7.is (c.wait_guard_eval.ensures.0 _ c.requires.5 _ vs), c.wait_guard_eval.ensures.1, c.wait_guard_eval.ensures.2)

pub returns-in_default : goal.returns-in_default
returns-in_default c = (λ vs. unwaited _ _ _ _ _ c.requires.2 (search rules) (search rules) (search rules) (search rules) (search rules) (search rules) (search rules) c.none.ensures.0, c.none.ensures.1, c.none.ensures.2)
