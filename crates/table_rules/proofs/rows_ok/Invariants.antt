use mathlib.Core.Path.{◌≡◌}
use Rattle.parlog.specs.Scan.{every}
use Rattle.parlog.specs.Tables.{procs_of}
use Rattle.parlog.specs.Program.{program_of}
use Rattle.parlog.specs.TableRules.{row_ok}
use Rattle.table_rules.proofs.rows_ok.Given as goal

abbrev pub invariant-loop-q : goal.invariant-loop-q
invariant-loop-q l = every (row_ok (program_of l.image.bytes.now l.image.relations l.image.clauses) (procs_of l.procs.bytes.now l.procs.count) l.n) l.procs.count ≡ every (row_ok (program_of l.image.bytes.now l.image.relations l.image.clauses) (procs_of l.procs.bytes.now l.procs.count) l.n) l.q
