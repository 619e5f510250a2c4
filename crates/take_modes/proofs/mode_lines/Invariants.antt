use Prim.Native.Nat.{◌-◌}
use Rattle.take_modes.proofs.Walked.{ModesLeft}
use Rattle.take_modes.specs.Lent.{Same}
use lib.ListN.{length}
use Rattle.take_modes.proofs.mode_lines.Given as goal

abbrev pub invariant-loop : goal.invariant-loop
invariant-loop l = ModesLeft l.s l.m l.initial.out l.out l.tables.places.now l.tables.arities.now l.tables.links.now l.p l.at l.g (length l.s - l.counter) × Same l.initial.tables l.tables
