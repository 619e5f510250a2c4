use mathlib.Core.Path.{◌≡◌}
use lib.ListN.{length}
use Rattle.lay.specs.Lay.{laid}
use Rattle.parlog.specs.Tables.{rows_bytes, zeros}
use Rattle.saved.specs.Restored.{variable_in}
use Rattle.saved.specs.Form.{numbers}
use Rattle.saved.proofs.take_variables.Given as goal

abbrev pub invariant-loop-i : goal.invariant-loop-i
invariant-loop-i l = l.vars ≡ laid (zeros (length l.initial.vars)) 0 (rows_bytes (variable_in l.s l.a) (numbers l.i))
