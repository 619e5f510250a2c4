use Rattle.text_names.specs.Bytes.{skip}
use mathlib.Core.Path.{◌≡◌}
use lib.ListN.{drop}
use Rattle.text_names.proofs.skip_blanks.Given as goal

abbrev pub invariant-loop-i : goal.invariant-loop-i
invariant-loop-i l = skip (drop l.i l.s) ≡ skip (drop l.from l.s)
