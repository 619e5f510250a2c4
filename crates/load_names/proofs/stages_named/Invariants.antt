use Rattle.place.specs.Reading.{row}
use Rattle.parlog.specs.Names.{stage_named}
use Rattle.parlog.specs.Image.{stage_end, stages_end}
use Prim.Native.Nat.{◌≤◌, ◌+◌, ◌-◌, ◌*◌}
use mathlib.Core.Path.{◌≡◌}
use lib.ListN.{length}
use Rattle.load_names.proofs.stages_named.Given as goal

abbrev pub invariant-loop : goal.invariant-loop
invariant-loop l = (row (stage_named l.known.image.now l.known.before.relations l.vars) (stage_end l.known.image.now) (l.n - l.counter) l.at ≡ row (stage_named l.known.image.now l.known.before.relations l.vars) (stage_end l.known.image.now) l.n l.from) × (l.at ≤ l.from + 130561 * l.counter) × (stages_end l.known.image.now (l.n - l.counter) l.at ≤ length l.known.image.now)
