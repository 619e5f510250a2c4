use Rattle.text_names.specs.Bytes.{back}
use mathlib.Core.Path.{◌≡◌}
use lib.ListN.{drop}
use Rattle.text_names.proofs.name_end.Given as goal

abbrev pub invariant-loop-i : goal.invariant-loop-i
invariant-loop-i l = back (drop l.i l.s) ≡ back (drop l.from l.s)
