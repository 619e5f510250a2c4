use Rattle.parlog.specs.Scan.{along}
use Rattle.parlog.specs.Image.{stage_end}
use mathlib.Core.Path.{◌≡◌}
use Prim.Native.Nat.{◌≤◌, ◌+◌, ◌*◌}
use Rattle.place.proofs.stages_end.Given as goal

abbrev pub invariant-loop : goal.invariant-loop
invariant-loop l = (l.at ≡ along (stage_end l.s) l.counter l.from) × (l.at ≤ l.from + 130561 * l.counter)
