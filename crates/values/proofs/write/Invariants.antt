use mathlib.Core.Path.{◌≡◌}
use Rattle.parlog.specs.Tables.{vars_in, written}
use Rattle.values.specs.Values.{values_bytes}
use Rattle.values.proofs.write.Given as goal

abbrev pub invariant-loop-v : goal.invariant-loop-v
invariant-loop-v l = l.values ≡ written (values_bytes (vars_in l.vars.bytes.now l.vars.count) l.v) l.initial.values
