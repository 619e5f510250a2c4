use Rattle.parlog.specs.Scan.{along}
use Rattle.parlog.specs.Image.{record_end, record_at}
use mathlib.Core.Path.{◌≡◌}
use Prim.Native.Nat.{◌≤◌, ◌+◌, ◌*◌, ◌-◌}
use Rattle.write_text.proofs.record_at.Given as goal

abbrev pub invariant-loop : goal.invariant-loop
invariant-loop l = (along (record_end l.s) (l.k - l.counter) l.at ≡ record_at l.s l.k) × (l.at + 65535 * (l.k - l.counter) ≤ 65535 * l.k)
