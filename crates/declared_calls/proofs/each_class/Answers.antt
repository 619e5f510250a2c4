use Rattle.declared_calls.proofs.Classes.{passed-clear, passed-end, passed-sizes, passed-stop}
use mathlib.Core.Path.{ap}
use mathlib.Core.Bool.{not}
use Rattle.declared_calls.proofs.each_class.Goals as goal

pub names-named-requires : goal.names-named-requires
names-named-requires c = (c.requires.0, passed-clear c.loop-k.invariant c.requires.2 c.requires.3 c.clear.ensures)

pub returns-then-not-class_declared : goal.returns-then-not-class_declared
returns-then-not-class_declared c = let z = passed-sizes c.loop-k.invariant c.requires.2 c.requires.3 c.clear.ensures c.names-named.ensures in (passed-stop c.loop-k.invariant c.requires.2 c.requires.3 c.clear.ensures c.names-named.ensures c.class_declared.result c.class_declared.ensures (ap not c.if-not-class_declared.true), z.0, z.1)

pub returns : goal.returns
returns c = (passed-end c.loop-k.invariant c.loop-k-test.false, c.loop-k.invariant.places, c.loop-k.invariant.links)
