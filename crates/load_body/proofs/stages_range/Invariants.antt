use Rattle.load_body.specs.Reading.{stages_row}
use Prim.Native.Nat.{◌≤◌, ◌+◌, ◌-◌, ◌*◌}
use mathlib.Core.Path.{◌≡◌}
use Rattle.load_body.proofs.stages_range.Given as goal

abbrev pub invariant-loop : goal.invariant-loop
invariant-loop l = (stages_row l.s (l.n - l.counter) l.at l.sum ≡ stages_row l.s l.n l.from 0) × (l.at ≤ l.from + 81 * l.counter) × (l.sum ≤ 8)
