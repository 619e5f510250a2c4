use mathlib.Core.Path.{◌≡◌}
use Rattle.parlog.specs.Scan.{every}
use Rattle.table_rules.specs.Parts.{cell_ok}
use Rattle.table_rules.proofs.cells_ok.Given as goal

abbrev pub invariant-loop-q : goal.invariant-loop-q
invariant-loop-q l = every (cell_ok l.vars.bytes.now l.vars.count) l.vars.count ≡ every (cell_ok l.vars.bytes.now l.vars.count) l.q
