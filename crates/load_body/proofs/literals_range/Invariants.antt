use Rattle.place.specs.Reading.{row}
use Rattle.parlog.specs.Body.{literal_range}
use Rattle.parlog.specs.Image.{literal_end}
use Prim.Native.Nat.{◌≤◌, ◌+◌, ◌-◌, ◌*◌}
use mathlib.Core.Path.{◌≡◌}
use Rattle.load_body.proofs.literals_range.Given as goal

abbrev pub invariant-loop : goal.invariant-loop
invariant-loop l = (row (literal_range l.s) (literal_end l.s) (l.n - l.counter) l.at ≡ row (literal_range l.s) (literal_end l.s) l.n l.from) × (l.at ≤ l.from + 10 * l.counter)
