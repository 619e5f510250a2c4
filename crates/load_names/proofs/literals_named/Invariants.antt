use Rattle.place.specs.Reading.{row}
use Rattle.parlog.specs.Names.{literal_named}
use Rattle.parlog.specs.Image.{literal_end, literals_end}
use Prim.Native.Nat.{◌≤◌, ◌+◌, ◌-◌, ◌*◌}
use mathlib.Core.Path.{◌≡◌}
use lib.ListN.{length}
use Rattle.load_names.proofs.literals_named.Given as goal

abbrev pub invariant-loop : goal.invariant-loop
invariant-loop l = (row (literal_named l.known.image.now l.known.before.relations l.vars) (literal_end l.known.image.now) (l.n - l.counter) l.at ≡ row (literal_named l.known.image.now l.known.before.relations l.vars) (literal_end l.known.image.now) l.n l.from) × (l.at ≤ l.from + 512 * l.counter) × (literals_end l.known.image.now (l.n - l.counter) l.at ≤ length l.known.image.now)
