use Rattle.entry.proofs.Entering.{indexed_of}
use Rattle.parlog.specs.Limits.{small}
use Rattle.machine.proofs.Beginning.{startable-refused, startable-sized, startable-turned}
use Rattle.machine.proofs.startable.Goals as goal

pub returns-in_default : goal.returns-in_default
unfolding small
returns-in_default c = record { startable_says = startable-refused _ _ _ c.load_indexed-l.ensures.value c.in_default.is; indexed_of = c.load_indexed-l.ensures.indexed_of }

pub returns-then-not-full_size : goal.returns-then-not-full_size
unfolding small
returns-then-not-full_size c = record { startable_says = startable-turned _ _ _ c.load_indexed-l.ensures.value c.in-Ok.is c.full_size.ensures (c.if-not-full_size.true) c.refusal.ensures; indexed_of = tt }

pub returns : goal.returns
unfolding small
returns c = record { startable_says = startable-sized _ _ _ c.load_indexed-l.ensures.value c.in-Ok.is c.full_size.ensures (c.if-not-full_size.false) c.load_indexed-l.ensures.bounded; indexed_of = indexed_of _ _ c.load_indexed-l.ensures.indexed_of c.in-Ok.is }
