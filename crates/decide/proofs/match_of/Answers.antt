use borrow.Author.Rules.{rules}
use native.Mathlib.Omega.{arith}
use Rattle.decide.proofs.Pairs.{match_is, pairs_below}
use Rattle.decide.proofs.match_of.Goals as goal

pub overflow_cast-own : goal.overflow_cast-own
overflow_cast-own c = record { fits = omega arith }

pub pairs_of-pairs-requires : goal.pairs_of-pairs-requires
pairs_of-pairs-requires c = (λ k h. omega (arith, c.requires.1 k h), λ k h. omega (arith, c.requires.2 k h), omega arith)

pub decide-requires : goal.decide-requires
decide-requires c =
    let p = c.requires in
    let few = c.args.call.few in
    (search rules, few, λ k h. rw c.pairs_of-pairs.ensures (pairs_below _ _ _ _ _ _ _ _ (λ j l. p.1 j (omega arith)) (λ j l. p.2 j (omega arith)) p.3 k h), λ j l. p.1 j (omega arith))

pub returns : goal.returns
returns c = let a = c.args in match_is _ a.call a.head a.first a.own c.pairs_of-pairs.ensures c.decide.ensures
