use Rattle.load.proofs.Room.{few-relations, few-clauses, block_room}
use Rattle.parlog.specs.Load.{progressed}
use mathlib.Core.Path.{refl}
use native.Mathlib.Omega.{arith}
use Rattle.load.proofs.progressed.Goals as goal

pub returns-in-Relation-clause-value : goal.returns-in-Relation-clause-value
unfolding progressed
returns-in-Relation-clause-value c = rw (c.number.ensures, c.in-Relation.is) refl

pub returns-in-Relation-clause-small : goal.returns-in-Relation-clause-small
returns-in-Relation-clause-small c = let k = c.args.known.now in
    record { relations = omega (arith, few-relations k.before 1 refl (rw c.in-Relation.is at c.requires.few)); clauses = c.requires.small.clauses; block = c.requires.small.block }

pub returns-in-Clause-clause-value : goal.returns-in-Clause-clause-value
unfolding progressed
returns-in-Clause-clause-value c = rw (c.number.ensures, c.in-Clause.is, c.block_with.ensures, c.byte_at-mark.ensures.0, c.byte_at-relation.ensures.0) refl

pub returns-in-Clause-clause-small : goal.returns-in-Clause-clause-small
returns-in-Clause-clause-small c = let k = c.args.known.now in
    let b = block_room k.image.now k.before c.args.known.now.at 2 refl (rw c.in-Clause.is at c.requires.room) in
    record {
      relations = k.relations;
      clauses = omega (arith, few-clauses k.before 2 refl (rw c.in-Clause.is at c.requires.few));
      block = rw (c.block_with.ensures, c.byte_at-relation.ensures.0, c.byte_at-mark.ensures.0) b;
    }

pub returns-in-Goal-clause-value : goal.returns-in-Goal-clause-value
unfolding progressed
returns-in-Goal-clause-value c = rw (c.number.ensures, c.in-Goal.is) refl
