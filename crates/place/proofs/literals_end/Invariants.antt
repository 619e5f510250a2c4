use Rattle.parlog.specs.Scan.{along}
use Rattle.parlog.specs.Image.{literal_end}
use mathlib.Core.Path.{◌≡◌}
use Prim.Native.Nat.{◌≤◌, ◌+◌, ◌*◌}
use Rattle.place.proofs.literals_end.Given as goal

abbrev pub invariant-loop : goal.invariant-loop
invariant-loop l = (l.at ≡ along (literal_end l.s) l.counter l.from) × (l.at ≤ l.from + 512 * l.counter)
