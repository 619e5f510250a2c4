use borrow.Author.Rules.{rules}
use Rattle.parlog.specs.Codes.{and_par, and_seq, guard_eval, or_par, or_search, seq_search, try_clause}
use Rattle.moves.proofs.Ways.{guard-left, started}
use Rattle.moves.proofs.start_tree.Goals as goal

pub returns-in-0 : goal.returns-in-0
returns-in-0 c = (λ s h v. started and_par _ _ _ _ _ c.in-0.is (c.start_and_par.ensures.0 s h), c.start_and_par.ensures.1, c.start_and_par.ensures.2)

pub returns-in-1 : goal.returns-in-1
returns-in-1 c = (λ s h v. started and_seq _ _ _ _ _ c.in-1.is (c.start_and_seq.ensures.0 s h), c.start_and_seq.ensures.1, c.start_and_seq.ensures.2)

pub returns-in-2 : goal.returns-in-2
returns-in-2 c = (λ s h v. started or_par _ _ _ _ _ c.in-2.is (c.start_or_par.ensures.0 _ s h), c.start_or_par.ensures.1, c.start_or_par.ensures.2)

pub returns-in-3 : goal.returns-in-3
returns-in-3 c = (λ s h v. started seq_search _ _ _ _ _ c.in-3.is (c.start_seq_search.ensures.0 s h), c.start_seq_search.ensures.1, c.start_seq_search.ensures.2)

pub returns-in-4 : goal.returns-in-4
returns-in-4 c = (λ s h v. started or_search _ _ _ _ _ c.in-4.is (c.start_or_search.ensures.0 s h v), c.start_or_search.ensures.1, c.start_or_search.ensures.2)

pub returns-in-5 : goal.returns-in-5
returns-in-5 c = (λ s h v. started try_clause _ _ _ _ _ c.in-5.is (c.start_try_clause.ensures.0 _ s h), c.start_try_clause.ensures.1, c.start_try_clause.ensures.2)

pub returns-in_default : goal.returns-in_default
returns-in_default c = (λ s h v. started guard_eval _ _ _ _ _ (guard-left _ c.requires.3 c.requires.4 c.requires.5 (search rules) (search rules) (search rules) (search rules) (search rules) (search rules)) (c.start_guard_eval.ensures.0 s h), c.start_guard_eval.ensures.1, c.start_guard_eval.ensures.2)
