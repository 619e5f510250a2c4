use Rattle.entry.proofs.Entering.{indexed_of}
use Rattle.parlog.specs.Limits.{small}
use Rattle.machine.proofs.Beginning.{sized_of}
use Rattle.machine.proofs.start.Goals as goal

pub begin-requires : goal.begin-requires
unfolding small
begin-requires c = let k = sized_of _ _ _ c.startable-a.ensures.startable_says c.in-Ok.is in (k.2, k.3, k.4)

pub invariant_of-accepted : goal.invariant_of-accepted
unfolding small
invariant_of-accepted c = let k = sized_of _ _ _ c.startable-a.ensures.startable_says c.in-Ok.is in record { few_relations = k.0; few_clauses = k.1; indexed = indexed_of _ _ c.startable-a.ensures.indexed_of c.in-Ok.is }
